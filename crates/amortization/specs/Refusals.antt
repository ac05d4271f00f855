-- What is sent back, and what is given. 02, N1.
-- Assumes nothing.
use Rattle.std.specs.Prelude.{ℕ, not, ◌||◌, List, [], ◌∷◌, eqb}
use Rattle.fractions.specs.Rounding.{floor, ceiling}
use Rattle.refusals.specs.declared.Refusal.TheVariants.{RateOrTerm, ShareUndecided}
use Rattle.refusals.specs.Numbers.{number_of}
use Rattle.refusals.specs.Range.{outside}
use Rattle.refusals.specs.Cases.{Case, case}
use Rattle.refusals.specs.Response.{Response, respond}
use Rattle.amortization.specs.Share.{share_by}

abbrev pub cases : ℕ → ℕ → List Case
cases i n =
    -- "The rate i counts 0.0001 and runs from 1 to 3,000; n runs from 2 to 30", "41 for a rate or term outside its range"
    case (number_of RateOrTerm) (outside i 1 3_000 || outside n 2 30) ∷
    -- "then 42 when the two ends round differently."
    case (number_of ShareUndecided) (not (eqb (share_by ceiling i n) (share_by floor i n))) ∷
    []

-- "S is given to the nearest 0.0001, a half going up, when both ends round alike."
abbrev pub share_response : ℕ → ℕ → Response
share_response i n = respond (cases i n) (share_by floor i n ∷ [])
