-- What a goal requires, the paper's need, in nanometres. 01, "Ladder and figures", and 02, N4.
-- Assumes nothing.
use Rattle.std.specs.Prelude.{ℕ, ◌*◌, ◌^◌}
use Rattle.fractions.specs.declared.Bounds.{Bounds}
use Rattle.fractions.specs.Fraction.{Fraction, ◌over◌}
use Rattle.fractions.specs.Rounding.{rounded}
use Rattle.roots.specs.Root.{root_bounds}
use Rattle.line.specs.declared.Line.{Line}
use Rattle.requirement.specs.declared.EconomyTerms.{EconomyTerms}
use Rattle.requirement.specs.declared.Goal.{Goal}
use Rattle.requirement.specs.declared.Goal.TheVariants.{Economy, Loss, Surface}
use Rattle.line.specs.declared.Shape.{Shape}
use Rattle.line.specs.declared.Shape.TheVariants.{Cylinder, Flat}
use Rattle.line.specs.Line.{shape_of, multiplier}

-- a fraction, or the square root of one
pub data Requirement : Type 0 where
  ratio root : Fraction → Requirement

-- the factor under the economy root
abbrev pub economy_factor : Shape → ℕ
economy_factor Cylinder = 14_402_025_000
economy_factor Flat = 3_598_609_000

-- the square of economy's need, with a price per m³ in place of P: "14,402,025,000 × fLτΔ / (PS) on a cylinder", "3,598,609,000 × fLτΔ /
-- (PS) on a flat wall"
abbrev pub economy_squared : Shape → Line → ℕ → EconomyTerms → Fraction → Fraction
economy_squared shape l Δ e price =
    (economy_factor shape * (e.heat * l.conductivity * e.hours * Δ) * price.den) over (price.num * e.share)

-- What a goal requires of a line, Δ being the temperature difference.
-- "economy: the square root of 14,402,025,000 × fLτΔ / (PS) on a cylinder, of 3,598,609,000 × fLτΔ / (PS) on a flat wall (coefficients
-- 3.795×10⁻³ and 1.897×10⁻³ as printed, squared)"
-- "loss: 2LΔ × 10⁵ / aim, flat LΔ × 10⁵ / aim"
-- "surface: 2LΔ × 10⁷ / (αs), flat half of that"
-- The equations for cold lines are the same, with Δ = ta − t and s = ta − aim: in 000, (7) and (8) have the coefficients of (1) and (2),
-- and print t − ta, which 02 reads as Δ; (9) and (13) are what (3) to (6) give for a surface temperature.
unfoldable pub requirement : Line → ℕ → Goal → Requirement
requirement l Δ (Economy e) = root (economy_squared (shape_of l) l Δ e (e.insulation over 1))
requirement l Δ (Loss aim) = ratio ((multiplier (shape_of l) * l.conductivity * Δ * 10 ^ 5) over aim)
requirement l Δ (Surface s) = ratio ((multiplier (shape_of l) * l.conductivity * Δ * 10 ^ 7) over (l.coefficient * s))

-- "Low need is the largest whole number not above it; high need is the least not below it."
unfoldable pub enclosing : Requirement → Bounds
enclosing (ratio p) = rounded p
enclosing (root p) = root_bounds p
