-- What a thickness provides: the whole-number figures enclose it on every cutting, and it grows with the thickness.
-- Assumes nothing.
use mathlib.Core.Path.{◌≡◌}
use Prim.Native.Nat.{ℕ, ◌+◌, ◌^◌, ◌≤◌, ◌<◌}
use native.Mathlib.Nat.{le_refl, mul-pos, mul-le-mul, mul-le-mul_right}
use native.Mathlib.Omega.{arith}
use Rattle.fractions.specs.Fraction.{Fraction, ◌over◌, plus, ◌≼◌}
use Rattle.fractions.specs.Rounding.{floor, ceiling}
use Rattle.fractions.proofs.Order.{≼_trans, plus_mono}
use Rattle.fractions.proofs.Rounding.{floor_below, ceiling_above}
use Rattle.lengths.specs.declared.units.Diameter.{Diameter}
use Rattle.lengths.specs.declared.units.Thickness.{Thickness}
use Rattle.lengths.specs.Units.{outer_diameter}
use Rattle.quadrature.specs.Figures.{lower_log, upper_log}
use Rattle.quadrature.specs.Cuttings.{midpoint, lower_sum, upper_sum}
use Rattle.quadrature.proofs.Enclosure.{enclosed, sum_mono, lower_den, upper_den}
use Rattle.line.specs.declared.Line.{Line}
use Rattle.line.specs.declared.Shape.{Shape}
use Rattle.line.specs.declared.Shape.TheVariants.{Cylinder, Flat}
use Rattle.line.specs.Line.{shape_of}
use Rattle.provision.specs.Provided.{insulation, film, from_figures, insulation_bounds, film_bounds, provided}
use Rattle.provision.specs.Exact.{from_sum, provided_exactly}

-- no thinner, on a logarithm that is no less
pub insulation_mono :
    (f g : Diameter → Diameter → Fraction) (s : Shape) (D : Diameter) {j k : Thickness} → j.0 ≤ k.0 → f D (outer_diameter D j) ≼ g D (outer_diameter D k) →
    insulation f s D j ≼ insulation g s D k
unfolding insulation
insulation_mono f g Cylinder D {j} {k} le h = omega (arith, mul-le-mul {n₁ = (outer_diameter D j).0} {n₂ = (outer_diameter D k).0} (omega arith) h)
insulation_mono f g Flat D le h = omega arith

pub insulation_den : (f : Diameter → Diameter → Fraction) (s : Shape) (D : Diameter) (k : Thickness) → 0 < (f D (outer_diameter D k)).den → 0 < (insulation f s D k).den
unfolding insulation
insulation_den f Cylinder D k pos = pos
insulation_den f Flat D k pos = omega arith

-- each quotient rounded by itself
floors_below : (p q : Fraction) → (floor p + floor q) over 1 ≼ plus p q
floors_below p q = omega (arith, mul-le-mul_right q.den (floor_below p), mul-le-mul_right p.den (floor_below q))

ceilings_above : (p q : Fraction) → 0 < p.den → 0 < q.den → plus p q ≼ (ceiling p + ceiling q) over 1
ceilings_above p q hp hq = omega (arith, mul-le-mul_right q.den (ceiling_above p hp), mul-le-mul_right p.den (ceiling_above q hq))

-- The laws of a line whose α and D are not 0, on a cutting m.
module _ (l : Line) (m : ℕ) (hα : 1 ≤ l.coefficient) (hD : 1 ≤ l.diameter.0) (hm : 1 ≤ m) where
  quotients_den : (f : Diameter → Diameter → Fraction) (k : Thickness) → 0 < (f l.diameter (outer_diameter l.diameter k)).den → 0 < (plus (insulation f (shape_of l) l.diameter k) (film l)).den
  unfolding film
  quotients_den f k pos = mul-pos (insulation_den f (shape_of l) l.diameter k pos) hα

  quotients_mono :
      (f g : Diameter → Diameter → Fraction) {j k : Thickness} → j.0 ≤ k.0 →
      f l.diameter (outer_diameter l.diameter j) ≼ g l.diameter (outer_diameter l.diameter k) →
      plus (insulation f (shape_of l) l.diameter j) (film l) ≼ plus (insulation g (shape_of l) l.diameter k) (film l)
  quotients_mono f g {j} {k} le h =
      let D = l.diameter in
      plus_mono (insulation f (shape_of l) D j) (film l) (insulation g (shape_of l) D k) (film l) (insulation_mono f g (shape_of l) D le h) (le_refl _)

  pub lower_provided_den : (k : Thickness) → 0 < (provided_exactly (lower_sum m) l k).den
  unfolding provided_exactly
  lower_provided_den k = quotients_den (from_sum (lower_sum m)) k (lower_den m _ _)

  pub upper_provided_den : (k : Thickness) → 0 < (provided_exactly (upper_sum m) l k).den
  unfolding provided_exactly
  upper_provided_den k = quotients_den (from_sum (upper_sum m)) k (upper_den m _ _ hm hD)

  pub provided_below : (k : Thickness) → (provided l k).lower over 1 ≼ provided_exactly (lower_sum m) l k
  unfolding provided insulation_bounds film_bounds provided_exactly
  provided_below k =
      let log = from_figures lower_log in
      let D = l.diameter in
      ≼_trans _ _ _ (quotients_den log k (omega arith)) (floors_below (insulation log (shape_of l) D k) (film l))
      (quotients_mono log (from_sum (lower_sum m)) (le_refl k.0) (omega (arith, (enclosed m D (outer_diameter D k) hm hD).lower)))

  pub provided_above : (k : Thickness) → provided_exactly (upper_sum m) l k ≼ (provided l k).upper over 1
  unfolding provided insulation_bounds film_bounds provided_exactly film
  provided_above k =
      let log = from_figures upper_log in
      let D = l.diameter in
      ≼_trans _ _ _ (quotients_den log k (omega arith))
      (quotients_mono (from_sum (upper_sum m)) log (le_refl k.0) (omega (arith, (enclosed m D (outer_diameter D k) hm hD).upper)))
      (ceilings_above (insulation log (shape_of l) D k) (film l) (insulation_den log (shape_of l) D k (omega arith)) hα)

  pub provided_grows : {j k : Thickness} → j.0 ≤ k.0 → provided_exactly (lower_sum m) l j ≼ provided_exactly (upper_sum m) l k
  unfolding provided_exactly
  provided_grows {j} {k} le =
      let D = l.diameter in
      let E = outer_diameter D k in
      let sums = ≼_trans (lower_sum m D (outer_diameter D j)) (lower_sum m D E) (upper_sum m D E) (lower_den m D E) (sum_mono midpoint m D (omega arith)) (enclosed m D E hm hD).sums in
      quotients_mono (from_sum (lower_sum m)) (from_sum (upper_sum m)) le (omega (arith, mul-le-mul_right (10 ^ 5) sums))

-- what is provided is no less than the film
pub film_within : (sum : Diameter → Diameter → Fraction) (l : Line) (k : Thickness) → film l ≼ provided_exactly sum l k
unfolding provided_exactly
film_within sum l k = omega arith

-- "Flat walls have no sum." (01, "Ladder and figures")
pub flat_reads_no_sum : (f g : Diameter → Diameter → Fraction) (l : Line) (k : Thickness) → shape_of l ≡ Flat → provided_exactly f l k ≡ provided_exactly g l k
unfolding insulation provided_exactly
flat_reads_no_sum f g l k flat = rw flat
