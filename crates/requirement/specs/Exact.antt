-- A requirement read exactly. 01, "Ladder and figures": "The exact reading of the equation uses the same have and need unrounded, as
-- fractions: pairs of whole numbers, compared with the denominators cleared, and a root by its square."
-- Assumes nothing.
use Rattle.std.specs.Prelude.{ℕ}
use Rattle.fractions.specs.Fraction.{Fraction, times, ◌≼◌, ◌≺◌}
use Rattle.requirement.specs.Required.{Requirement}
use Rattle.requirement.specs.Required.Requirement.{ratio, root}

abbrev pub square : Fraction → Fraction
square p = times p p

-- "Exactly read, a rung meets if have is not below need, and misses if it is."
unfoldable pub Meets : Requirement → Fraction → Type 0
Meets (ratio required) provided = required ≼ provided
Meets (root required) provided = required ≼ square provided

unfoldable pub Misses : Requirement → Fraction → Type 0
Misses (ratio required) provided = provided ≺ required
Misses (root required) provided = square provided ≺ required

-- the denominator of a requirement, or of what is under its root
abbrev pub denominator : Requirement → ℕ
denominator (ratio required) = required.den
denominator (root required) = required.den
