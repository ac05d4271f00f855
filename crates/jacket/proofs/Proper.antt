-- What the square of have is compared with under a jacket is a fraction.
-- Assumes nothing.
use mathlib.Core.Bool.{Bool, true, false, cond}
use Prim.Native.Nat.{ℕ, ◌*◌, ◌≤◌, ◌<◌}
use native.Mathlib.Nat.{mul-pos}
use native.Mathlib.Omega.{arith}
use lib.Dec.{leb}
use Rattle.fractions.specs.Fraction.{Fraction}
use Rattle.lengths.specs.declared.units.Thickness.{Thickness}
use Rattle.lengths.specs.Units.{outer_diameter}
use Rattle.line.specs.declared.Line.{Line}
use Rattle.requirement.specs.declared.EconomyTerms.{EconomyTerms}
use Rattle.requirement.specs.Ranges.{EconomyInRange}
use Rattle.requirement.specs.Criterion.{IsFraction}
use Rattle.requirement.specs.Criterion.Criterion.{squared, unattainable}
use Rattle.jacket.specs.Jacket.{jacketed}

unless_unattainable : (b : Bool) (q : Fraction) → 0 < q.den → IsFraction (cond b unattainable (squared q))
unless_unattainable true q some = tt
unless_unattainable false q some = some

pub jacketed_proper : (l : Line) (Δ : ℕ) (e : EconomyTerms) (jacket : ℕ) (k : Thickness) → 1 ≤ l.coefficient → 1 ≤ l.diameter.0 → EconomyInRange e → IsFraction (jacketed l Δ e jacket k)
unfolding jacketed
jacketed_proper l Δ e jacket k hα hD terms =
    let E = (outer_diameter l.diameter k).0 in
    let some_E : 1 ≤ E = omega arith in
    let price = mul-pos terms.insulation_from some_E in
    unless_unattainable (leb (l.coefficient * E) (200 * l.conductivity)) _ (mul-pos (mul-pos hα some_E) (mul-pos (omega (arith, price)) terms.share_from))
