-- The whole-number figures of what a thickness provides grow with the thickness.
-- Assumes nothing.
use Prim.Native.Nat.{ℕ, ◌-◌, ◌≤◌, ◌<◌}
use native.Mathlib.Omega.{arith}
use native.Mathlib.Nat.{mul-le-mul_right}
use Rattle.fractions.specs.Fraction.{Fraction, ◌≼◌}
use Rattle.fractions.proofs.Rounding.{floor_mono, ceiling_mono}
use Rattle.lengths.specs.declared.units.Diameter.{Diameter}
use Rattle.lengths.specs.declared.units.Thickness.{Thickness}
use Rattle.quadrature.specs.Sums.{total}
use Rattle.quadrature.specs.Figures.{lower_step, upper_step}
use Rattle.quadrature.proofs.Sums.{total_grows}
use Rattle.line.specs.declared.Line.{Line}
use Rattle.line.specs.declared.Shape.{Shape}
use Rattle.line.specs.Line.{shape_of}
use Rattle.provision.specs.Provided.{insulation, from_figures, insulation_bounds, provided}
use Rattle.provision.proofs.Enclosure.{insulation_mono, insulation_den}

-- of the figures of either side
module _ (step : ℕ → ℕ) (s : Shape) (D : Diameter) {j k : Thickness} (le : j.0 ≤ k.0) where
  abbrev figures : Thickness → Fraction
  figures = insulation (from_figures (λ d e. total step d.0 (e.0 - d.0))) s D

  pub grows : figures j ≼ figures k
  grows = insulation_mono _ _ s D le (mul-le-mul_right _ (total_grows step D.0 (omega arith)))

  pub proper : (i : Thickness) → 0 < (figures i).den
  proper i = insulation_den _ s D i (omega arith)

pub provided_more : (l : Line) {j k : Thickness} → j.0 ≤ k.0 → ((provided l j).lower ≤ (provided l k).lower) × ((provided l j).upper ≤ (provided l k).upper)
unfolding provided insulation_bounds
provided_more l {j} {k} le =
    let s = shape_of l in
    let D = l.diameter in
    let lower = floor_mono _ _ (proper lower_step s D le j) (proper lower_step s D le k) (grows lower_step s D le) in
    let upper = ceiling_mono _ _ (proper upper_step s D le j) (proper upper_step s D le k) (grows upper_step s D le) in
    (omega (arith, lower), omega (arith, upper))
