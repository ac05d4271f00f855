-- Where the figures and the exact sums lie, for every cutting.
-- Assumes nothing.
use mathlib.Core.Path.{◌≡◌}
use Prim.Native.Nat.{ℕ, ◌+◌, ◌-◌, ◌*◌, ◌≤◌, ◌<◌}
use native.Mathlib.Nat.{mul-sub, mul-pos, mul_assoc, mul-le-mul_left}
use native.Mathlib.Omega.{arith}
use Rattle.fractions.specs.Fraction.{Fraction, ◌over◌, ◌≼◌, ◌≺◌}
use Rattle.fractions.proofs.Order.{≼_trans}
use Rattle.fractions.proofs.Rounding.{floor_below, ceiling_above}
use Rattle.lengths.specs.declared.units.Diameter.{Diameter}
use Rattle.quadrature.specs.Sums.{total, fraction_sum}
use Rattle.quadrature.specs.Figures.{tera, lower_step, upper_step, lower_log, upper_log}
use Rattle.quadrature.specs.Cuttings.{midpoint, trapezoid, cut_sum, lower_sum, upper_sum}
use Rattle.quadrature.proofs.Sums.{fraction_sum_pos, fraction_sum_mono, fraction_sum_grows, fraction_sum_rises, gather_below, gather_above, blocks}
use Rattle.quadrature.proofs.Strips.{midpoint_cut, trapezoid_cut}

-- The n strips from a on: every term is above 0, and no denominator is 0, so that ≼ compares.
midpoint_some : (a k : ℕ) → (0 < (midpoint (a + k)).num) × (0 < (midpoint (a + k)).den)
midpoint_some a k = omega arith

trapezoid_some : (a k : ℕ) → 1 ≤ a → (0 < (trapezoid (a + k)).num) × (0 < (trapezoid (a + k)).den)
trapezoid_some a k pos = omega (arith, mul-pos pos pos)

pub midpoints_den : (a n : ℕ) → 0 < (fraction_sum midpoint a n).den
midpoints_den a n = fraction_sum_pos midpoint a n (λ k lt. (midpoint_some a k).1)

pub trapezoids_den : (a n : ℕ) → 1 ≤ a → 0 < (fraction_sum trapezoid a n).den
trapezoids_den a n pos = fraction_sum_pos trapezoid a n (λ k lt. (trapezoid_some a k pos).1)

-- The figures lie outside the strips' sums, and the sums of the strips cut in m lie within those.
pub lower_figures : (a n : ℕ) → total lower_step a n over tera ≼ fraction_sum midpoint a n
unfolding lower_step
lower_figures a n = gather_below tera lower_step midpoint a n (λ k lt. omega (arith, floor_below (2 * tera over (2 * (a + k) + 1))))

pub upper_figures : (a n : ℕ) → 1 ≤ a → fraction_sum trapezoid a n ≼ total upper_step a n over tera
unfolding upper_step
upper_figures a n pos =
    gather_above tera trapezoid upper_step a n
    (λ k lt. omega (arith, ceiling_above (tera * (2 * (a + k) + 1) over (2 * (a + k) * (a + k + 1))) (trapezoid_some a k pos).1))

pub midpoints_cut : (m a n : ℕ) → 1 ≤ m → fraction_sum midpoint a n ≼ fraction_sum midpoint (m * a) (m * n)
midpoints_cut m a n hm = rw blocks (fraction_sum_mono midpoint (λ i. fraction_sum midpoint (m * i) m) a n (λ k lt. midpoint_cut m (a + k) hm))

pub trapezoids_cut : (m a n : ℕ) → 1 ≤ m → 1 ≤ a → fraction_sum trapezoid (m * a) (m * n) ≼ fraction_sum trapezoid a n
trapezoids_cut m a n hm ha =
    rw blocks (fraction_sum_mono (λ i. fraction_sum trapezoid (m * i) m) trapezoid a n (λ k lt. trapezoid_cut m (a + k) hm (omega arith)))

-- So the figures of any run of strips enclose both sums of the strips cut in m.
pub record EnclosedRun (m a n : ℕ) : Type 0 where
  pub lower : total lower_step a n over tera ≼ fraction_sum midpoint (m * a) (m * n)
  pub sums : fraction_sum midpoint (m * a) (m * n) ≼ fraction_sum trapezoid (m * a) (m * n)
  pub upper : fraction_sum trapezoid (m * a) (m * n) ≼ total upper_step a n over tera

pub enclosed_run : (m a n : ℕ) → 1 ≤ m → 1 ≤ a → EnclosedRun m a n
enclosed_run m a n hm ha =
    record {
      lower = ≼_trans _ (fraction_sum midpoint a n) _ (midpoints_den a n) (lower_figures a n) (midpoints_cut m a n hm);
      sums = fraction_sum_mono midpoint trapezoid (m * a) (m * n) (λ k lt. omega arith);
      upper = ≼_trans _ (fraction_sum trapezoid a n) _ (trapezoids_den a n ha) (trapezoids_cut m a n hm ha) (upper_figures a n ha);
    }

-- From D to E: the figures enclose both sums of every cutting.
pub record Enclosed (m : ℕ) (D E : Diameter) : Type 0 where
  pub lower : lower_log D E over tera ≼ lower_sum m D E
  pub sums : lower_sum m D E ≼ upper_sum m D E
  pub upper : upper_sum m D E ≼ upper_log D E over tera

pub enclosed : (m : ℕ) (D E : Diameter) → 1 ≤ m → 1 ≤ D.0 → Enclosed m D E
unfolding cut_sum
enclosed m D E hm hD =
    let run = enclosed_run m D.0 (E.0 - D.0) hm hD in
    record { lower = rw (← mul-sub) run.lower; sums = rw (← mul-sub) run.sums; upper = rw (← mul-sub) run.upper }

-- No denominator of a cutting's sums is 0.
pub lower_den : (m : ℕ) (D E : Diameter) → 0 < (lower_sum m D E).den
unfolding cut_sum
lower_den m D E = midpoints_den (m * D.0) (m * E.0 - m * D.0)

pub upper_den : (m : ℕ) (D E : Diameter) → 1 ≤ m → 1 ≤ D.0 → 0 < (upper_sum m D E).den
unfolding cut_sum
upper_den m D E hm hD = trapezoids_den (m * D.0) (m * E.0 - m * D.0) (mul-pos hm hD)

-- Each sum grows with E: it never falls, and beyond D it rises.
pub sum_mono : (strip : ℕ → Fraction) (m : ℕ) (D : Diameter) {E F : Diameter} → E.0 ≤ F.0 → cut_sum strip m D E ≼ cut_sum strip m D F
unfolding cut_sum
sum_mono strip m D le = fraction_sum_grows strip (m * D.0) (omega (arith, mul-le-mul_left m le))

sum_rises : (strip : ℕ → Fraction) (m : ℕ) (D : Diameter) {E F : Diameter} → ((k : ℕ) → (0 < (strip (m * D.0 + k)).num) × (0 < (strip (m * D.0 + k)).den)) → 1 ≤ m → D.0 ≤ E.0 → E.0 < F.0 → cut_sum strip m D E ≺ cut_sum strip m D F
unfolding cut_sum
sum_rises strip m D some hm le lt = fraction_sum_rises strip (m * D.0) some (omega (arith, mul-le-mul_left m le, mul-le-mul_left m lt))

pub lower_rises : (m : ℕ) (D : Diameter) {E F : Diameter} → 1 ≤ m → D.0 ≤ E.0 → E.0 < F.0 → lower_sum m D E ≺ lower_sum m D F
lower_rises m D = sum_rises midpoint m D (midpoint_some (m * D.0))

pub upper_rises : (m : ℕ) (D : Diameter) {E F : Diameter} → 1 ≤ m → 1 ≤ D.0 → D.0 ≤ E.0 → E.0 < F.0 → upper_sum m D E ≺ upper_sum m D F
upper_rises m D hm hD = sum_rises trapezoid m D (λ k. trapezoid_some (m * D.0) k (mul-pos hm hD)) hm

-- A cutting by m k refines the cutting by k: each of its strips is cut in m.
recut : (strip : ℕ → Fraction) (m k : ℕ) (D E : Diameter) → cut_sum strip (m * k) D E ≡ fraction_sum strip (m * (k * D.0)) (m * (k * E.0 - k * D.0))
unfolding cut_sum
recut strip m k D E = rw (mul_assoc m k D.0, mul_assoc m k E.0, mul-sub m (k * E.0) (k * D.0))

pub lower_refines : (m k : ℕ) (D E : Diameter) → 1 ≤ m → lower_sum k D E ≼ lower_sum (m * k) D E
unfolding cut_sum
lower_refines m k D E hm = rw (recut midpoint m k D E) (midpoints_cut m (k * D.0) (k * E.0 - k * D.0) hm)

pub upper_refines : (m k : ℕ) (D E : Diameter) → 1 ≤ m → 1 ≤ k → 1 ≤ D.0 → upper_sum (m * k) D E ≼ upper_sum k D E
unfolding cut_sum
upper_refines m k D E hm hk hD = rw (recut trapezoid m k D E) (trapezoids_cut m (k * D.0) (k * E.0 - k * D.0) hm (mul-pos hk hD))
