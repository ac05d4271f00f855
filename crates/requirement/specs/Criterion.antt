-- What a thickness is judged by, and how that is read exactly. 01, "Ladder and figures", and 02, N6.
-- Assumes nothing.
use Rattle.std.specs.Prelude.{◌<◌}
use Rattle.fractions.specs.Fraction.{Fraction}
use Rattle.requirement.specs.Required.{Requirement}
use Rattle.requirement.specs.Required.Requirement.{root}
use Rattle.requirement.specs.Exact.{Meets, Misses, denominator}

-- A requirement between whole numbers, "Low need" and "high need" (01); or the root of a fraction, read by squares: "Fractions are cleared
-- first and nothing else is rounded." (02, N6); or one that no thickness meets: "A rung where the difference is not positive misses,
-- exactly read as well."
pub data Criterion : Type 0 where
  enclosed : Requirement → Criterion
  squared : Fraction → Criterion
  unattainable : Criterion

-- "Exactly read, a rung meets if have is not below need, and misses if it is." (01). Under N6 the square of have is compared; and where the
-- difference is not positive, every have misses.
abbrev pub MeetsBy : Criterion → Fraction → Type 0
MeetsBy (enclosed required) provided = Meets required provided
MeetsBy (squared required) provided = Meets (root required) provided
MeetsBy unattainable provided = ⊥

abbrev pub MissesBy : Criterion → Fraction → Type 0
MissesBy (enclosed required) provided = Misses required provided
MissesBy (squared required) provided = Misses (root required) provided
MissesBy unattainable provided = Unit {0}

-- what have is compared with is a fraction: its denominator is not 0
abbrev pub IsFraction : Criterion → Type 0
IsFraction (enclosed required) = 0 < denominator required
IsFraction (squared required) = 0 < required.den
IsFraction unattainable = Unit {0}
