-- Yearly shares and loss limits worked by hand, by computation.
-- Assumes nothing.
use mathlib.Core.Path.{refl}
use Rattle.refusals.specs.Response.{respond}
use Rattle.amortization.specs.Growth.{growth}
use Rattle.limits.specs.Limits.{neighbours, loss_limit}
use Rattle.promises.specs.Worked.{WorkedShares, WorkedLimits}

pub worked_shares : WorkedShares
unfolding respond growth
worked_shares =
    record {
      ten_per_cent = refl;
      printed = (refl, refl);
      corners = (refl, refl, refl, refl);
      beyond = (refl, refl, refl, refl);
      undecided = refl;
      both = (refl, refl, refl);
    }

pub worked_limits : WorkedLimits
unfolding neighbours loss_limit
worked_limits =
    record {
      year_round_130 = refl;
      year_round_129_9 = refl;
      seasonal_129_9 = refl;
      rows_at_130 = (refl, refl);
      seasonal_400 = refl;
      seasonal_400_1 = refl;
      year_round_650 = refl;
    }
