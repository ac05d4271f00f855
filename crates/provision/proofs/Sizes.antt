-- The figures fit 64 bits.
-- Assumes nothing.
use mathlib.Core.Path.{◌≡◌, refl}
use Prim.Native.Nat.{ℕ, ◌+◌, ◌-◌, ◌*◌, ◌/◌, ◌^◌, ◌≤◌}
use native.Mathlib.Nat.{mul-le-mul, div-le_self, div-le_of_le-mul, le-div_iff_mul-le}
use native.Mathlib.Omega.{arith}
use Rattle.quadrature.specs.Sums.{total}
use Rattle.lengths.specs.declared.units.Diameter.{Diameter}
use Rattle.lengths.specs.declared.units.Thickness.{Thickness}
use Rattle.lengths.specs.Units.{outer_diameter}
use Rattle.quadrature.specs.Figures.{lower_step, upper_step, lower_log, upper_log}
use Rattle.logarithm.proofs.Steps.{Small, log_small, lower_small, upper_small}
use Rattle.line.specs.declared.Line.{Line}
use Rattle.line.specs.declared.Shape.{Shape}
use Rattle.line.specs.declared.Shape.TheVariants.{Cylinder, Flat}
use Rattle.line.specs.Line.{shape_of, multiplier}
use Rattle.provision.specs.Provided.{insulation, film, insulation_bounds, film_bounds, provided}
use Rattle.line.specs.Range.{LineInRange}
use Rattle.line.proofs.Shapes.{cylinder_diameter, multiplier_le}

-- the outer diameter times the logarithm
pub cylinder_small : (f : ℕ → ℕ) → Small f → {D e : Diameter} {k : Thickness} {log : ℕ} → 100 ≤ D.0 → D.0 ≤ 10_000 → k.0 ≤ 300 → e ≡ outer_diameter D k → log ≡ total f D.0 (e.0 - D.0) → e.0 * log ≤ 16_000 * (16_000 * 10 ^ 10)
cylinder_small f small {D} {e} {k} {log} from to le outer is =
    let wide : e.0 ≤ 16_000 = rw outer (omega arith) in
    let long : log ≤ 16_000 * 10 ^ 10 = omega (arith, log_small f small {d = D.0} e.0 from) in
    mul-le-mul wide long

-- the insulation
insulation_fits_by : (s : Shape) (D : Diameter) (k : Thickness) → 100 ≤ D.0 → (s ≡ Cylinder → D.0 ≤ 10_000) → k.0 ≤ 300 → ((insulation_bounds s D k).lower ≤ 2 ^ 62) × ((insulation_bounds s D k).upper ≤ 2 ^ 62)
unfolding insulation insulation_bounds
insulation_fits_by Cylinder D k from to le =
    let e = outer_diameter D k in
    let lower = cylinder_small lower_step lower_small {k = k} from (to refl) le refl refl in
    let upper = cylinder_small upper_step upper_small {k = k} from (to refl) le refl refl in
    (omega (arith, lower, div-le_self (e.0 * lower_log D e) (10 ^ 7)), omega (arith, upper, div-le_self (e.0 * upper_log D e + (10 ^ 7 - 1)) (10 ^ 7)))
insulation_fits_by Flat D k from to le = (omega arith, omega arith)

pub insulation_fits : (l : Line) (k : Thickness) → LineInRange l → k.0 ≤ 300 → ((insulation_bounds (shape_of l) l.diameter k).lower ≤ 2 ^ 62) × ((insulation_bounds (shape_of l) l.diameter k).upper ≤ 2 ^ 62)
insulation_fits l k range le = insulation_fits_by (shape_of l) l.diameter k range.diameter_from (cylinder_diameter l) le

-- the film
pub film_small : (l : Line) → LineInRange l → ((film_bounds l).lower ≤ 2 ^ 62) × ((film_bounds l).upper ≤ 2 ^ 62)
unfolding film film_bounds
film_small l range =
    let p = film l in
    let small = mul-le-mul (multiplier_le (shape_of l)) range.conductivity_to in
    (omega (arith, small, div-le_self p.num p.den), omega (arith, small, div-le_self (p.num + (p.den - 1)) p.den))

-- what a rung provides at the least: above 0, since the film is, and below 2⁴⁰
insulation_small : (s : Shape) (D : Diameter) (k : Thickness) → 100 ≤ D.0 → (s ≡ Cylinder → D.0 ≤ 10_000) → k.0 ≤ 300 → (insulation_bounds s D k).lower ≤ 2 ^ 38
unfolding insulation insulation_bounds
insulation_small Cylinder D k from to le =
    div-le_of_le-mul (10 ^ 7) {m = (outer_diameter D k).0 * lower_log D (outer_diameter D k)} {n = 2 ^ 38}
    (omega (arith, cylinder_small lower_step lower_small {k = k} from (to refl) le refl refl))
insulation_small Flat D k from to le = omega arith

film_from : (s : Shape) (L α : ℕ) → 1 ≤ L → 1 ≤ α → α ≤ 10_000 → 1 ≤ multiplier s * L * 10 ^ 7 / α
film_from Cylinder L α some from to = (le-div_iff_mul-le from).1 (omega arith)
film_from Flat L α some from to = (le-div_iff_mul-le from).1 (omega arith)

pub provided_size : (l : Line) (k : Thickness) → LineInRange l → 1 ≤ l.conductivity → k.0 ≤ 300 → (1 ≤ (provided l k).lower) × ((provided l k).lower ≤ 2 ^ 40)
unfolding provided film film_bounds
provided_size l k range some le =
    let thin = insulation_small (shape_of l) l.diameter k range.diameter_from (cylinder_diameter l) le in
    let from = film_from (shape_of l) l.conductivity l.coefficient some (omega arith) range.coefficient_to in
    let to = div-le_self (film l).num (film l).den in
    (omega (arith, from), omega (arith, thin, to, mul-le-mul (multiplier_le (shape_of l)) range.conductivity_to))
