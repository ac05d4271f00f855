-- What a thickness provides on a cylinder, so that its square, multiplied out, fits 128 bits.
-- Assumes nothing.
use mathlib.Core.Path.{refl}
use Prim.Native.Nat.{ℕ, ◌+◌, ◌-◌, ◌*◌, ◌/◌, ◌^◌, ◌≤◌, ◌<◌}
use native.Mathlib.Nat.{le_refl, le_trans, lt_of_le_of_lt, mul-le-mul, mul-le-mul_right, mul-le-mul_left, div-le_of_le-mul}
use native.Mathlib.Omega.{arith}
use borrow.Author.Tests.{le-leb, ltb-true}
use Rattle.fractions.proofs.Order.{≼_trans}
use Rattle.lengths.specs.declared.units.Diameter.{Diameter}
use Rattle.lengths.specs.declared.units.Thickness.{Thickness}
use Rattle.lengths.specs.Units.{outer_diameter}
use Rattle.quadrature.specs.Figures.{tera, upper_step, upper_log}
use Rattle.logarithm.proofs.Steps.{total_within}
use Rattle.line.specs.declared.Line.{Line}
use Rattle.line.specs.declared.Shape.TheVariants.{Cylinder}
use Rattle.line.specs.Range.{LineInRange}
use Rattle.provision.specs.Provided.{insulation, film, insulation_bounds, film_bounds, provided}
use Rattle.provision.proofs.Enclosure.{lower_provided_den, upper_provided_den, provided_below, provided_above, provided_grows}

-- no step from d on is above the whole part of 10¹² / d and 2 more
step_within : (d : ℕ) → 1 ≤ d → (i : ℕ) → d ≤ i → upper_step i ≤ tera / d + 2
unfolding upper_step
step_within d some i le =
    let den = 2 * i * (i + 1) in
    let whole : tera ≤ (tera / d + 1) * d = omega arith in
    let more : tera + i ≤ (tera / d + 2) * i = omega (arith, mul-le-mul_left (tera / d + 1) le) in
    div-le_of_le-mul den {m = tera * (2 * i + 1) + (den - 1)} {n = tera / d + 2} (omega (arith, mul-le-mul_right (2 * (i + 1)) more))

module _ (D : Diameter) (k : Thickness) (from : 100 ≤ D.0) (le : k.0 ≤ 300) where
  abbrev E : Diameter
  E = outer_diameter D k

  -- E is at most 61 times D, and there are at most 6,000 steps
  product_within : E.0 * upper_log D E ≤ 366_000 * (tera + 2 * D.0)
  product_within =
      let each = tera / D.0 + 2 in
      let log : upper_log D E ≤ 6_000 * each =
      omega (arith, total_within upper_step each D.0 (E.0 - D.0) (step_within D.0 (omega arith)), mul-le-mul_right {m = E.0 - D.0} {n = 6_000} each (omega arith)) in
      let whole : D.0 * each ≤ tera + 2 * D.0 = omega arith in
      omega (arith, mul-le-mul {n₁ = E.0} {m₁ = upper_log D E} {n₂ = 61 * D.0} {m₂ = 6_000 * each} (omega arith) log)

  insulation_within : D.0 ≤ 10_000 → (insulation_bounds Cylinder D k).upper ≤ 36_600_000_733
  unfolding insulation insulation_bounds
  insulation_within to = div-le_of_le-mul (10 ^ 7) {m = E.0 * upper_log D E + (10 ^ 7 - 1)} {n = 36_600_000_733} (omega (arith, product_within))

module _ (l : Line) (k : Thickness) (range : LineInRange l) (cylinder : l.diameter.0 ≤ 10_000) (le : k.0 ≤ 300) where
  provided_within : (provided l k).upper ≤ 37_000_001_000
  unfolding provided film film_bounds
  provided_within =
      let α = l.coefficient in
      let outer : (2 * l.conductivity * 10 ^ 7 + (α - 1)) / α ≤ 400_000_001 =
      div-le_of_le-mul α {m = 2 * l.conductivity * 10 ^ 7 + (α - 1)} {n = 400_000_001} (omega (arith, range.conductivity_to, range.coefficient_from)) in
      rw (le-leb l.diameter.0 10_000 cylinder) (omega (arith, insulation_within l.diameter k range.diameter_from le cylinder, outer))

  ordered : (provided l k).lower ≤ (provided l k).upper
  ordered =
      let α : 1 ≤ l.coefficient = omega (arith, range.coefficient_from) in
      let D : 1 ≤ l.diameter.0 = omega (arith, range.diameter_from) in
      let m : 1 ≤ 1 = omega arith in
      let grows = ≼_trans _ _ _ (lower_provided_den l 1 α D m k) (provided_below l 1 α D m k) (provided_grows l 1 α D m {j = k} {k = k} (le_refl _)) in
      omega (arith, ≼_trans _ _ _ (upper_provided_den l 1 α D m k) grows (provided_above l 1 α D m k))

  -- the square of a figure, times (PE + 20,000 × aim) S α
  square_within : (n o : ℕ) → n ≤ 37_000_001_000 → o ≤ 65_535 * 36_000 * 10_000 → n * n * (o * l.coefficient) < 2 ^ 128
  square_within n o small low =
      lt_of_le_of_lt (mul-le-mul (mul-le-mul small small) (mul-le-mul low range.coefficient_to))
      (ltb-true (37_000_001_000 * 37_000_001_000 * (65_535 * 36_000 * 10_000 * 10_000)) (2 ^ 128) refl)

  pub squares_fit :
      (o : ℕ) → o ≤ 65_535 * 36_000 * 10_000 →
      ((provided l k).lower * (provided l k).lower * (o * l.coefficient) < 2 ^ 128) × ((provided l k).upper * (provided l k).upper * (o * l.coefficient) < 2 ^ 128)
  squares_fit o low = (square_within _ o (le_trans ordered provided_within) low, square_within _ o provided_within low)
