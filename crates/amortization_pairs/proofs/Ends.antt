-- The figures of docs/SHARE.md, by computation.
-- Assumes nothing.
use mathlib.Core.Path.{refl}
use Rattle.amortization.specs.Growth.{growth}
use Rattle.amortization_pairs.specs.Pairs.{figures, WorkedEnds}

pub worked_ends : WorkedEnds
unfolding growth figures
worked_ends =
    record {
      ten_per_cent = record { lower_growth = refl; upper_growth = refl; least_share = refl; most_share = refl; share_exactly = refl };
      four = record { lower_growth = refl; upper_growth = refl; least_share = refl; most_share = refl; share_exactly = refl };
      eight = record { lower_growth = refl; upper_growth = refl; least_share = refl; most_share = refl; share_exactly = refl };
      sixteen = record { lower_growth = refl; upper_growth = refl; least_share = refl; most_share = refl; share_exactly = refl };
    }
