-- What is promised of the yearly share.
-- Assumes nothing.
use mathlib.Core.Path.{refl}
use mathlib.Core.List.{[], ◌∷◌}
use native.Mathlib.Omega.{arith}
use Rattle.fractions.specs.Rounding.{floor}
use Rattle.refusals.specs.Cases.{numbers}
use Rattle.refusals.proofs.Response.{first_or_complete}
use Rattle.amortization.specs.Share.{share_by}
use Rattle.amortization.specs.Refusals.{cases}
use Rattle.amortization.proofs.Growth.{growth_enclosed}
use Rattle.amortization.proofs.Enclosure.{share_falls, floor_grown, exact_grown, ceiling_grown, share_below, share_above, one_year}
use Rattle.amortization.proofs.Given.{given_exact, on_a_sheet}
use Rattle.promises.specs.Shares.{Shares}

pub shares : Shares
unfolding numbers
shares =
    record {
      growth_enclosed = growth_enclosed;
      grown = λ i n some years. (floor_grown i n some years, exact_grown i n some years, ceiling_grown i n some years);
      share_falls = λ i g h some hg hh. share_falls i g h hg hh some;
      share_enclosed = λ i n some years. (share_below i n some years, share_above i n some years);
      half_up = λ n. omega arith;
      first = λ i n. first_or_complete (cases i n) (share_by floor i n ∷ []);
      order = λ i n. refl;
      one_year = one_year;
      given_exact = given_exact;
      on_a_sheet = on_a_sheet;
    }
