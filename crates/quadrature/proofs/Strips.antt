-- One unit strip, cut in m: the midpoint rule's sum grows, and the trapezoidal rule's falls. The strip may lie at any scale.
-- Assumes nothing.
use mathlib.Core.Path.{◌≡◌, ap}
use Prim.Native.Nat.{ℕ, zero, suc, ◌+◌, ◌-◌, ◌*◌, ◌≤◌, ◌<◌}
use native.Mathlib.Nat.{le_of_lt, mul-pos, mul-le-mul_left}
use native.Mathlib.Omega.{arith}
use Rattle.fractions.specs.Fraction.{◌over◌, ◌≼◌}
use Rattle.fractions.proofs.Order.{≼_trans}
use Rattle.quadrature.specs.Sums.{summed, total, fraction_sum}
use Rattle.quadrature.specs.Cuttings.{midpoint, trapezoid}
use Rattle.quadrature.proofs.Sums.{gather_below, gather_above}

squares : (x y : ℕ) → 2 * (x * y) ≤ x * x + y * y
squares zero y = omega arith
squares (suc x) zero = omega arith
squares (suc x) (suc y) = omega (arith, squares x y)

-- Over the m strips from a on, 2 j + 1 runs about the middle c. Two straight lines there have one numerator:
-- over c², the tangent of 2 / x at c, which the midpoint strips do not fall below;
-- over 4 a (a + m), the chord, which the trapezoidal strips do not rise above.
module _ (a m : ℕ) where
  abbrev c : ℕ
  c = 2 * a + m

  line : ℕ → ℕ
  line j = 4 * c - 2 * (2 * j + 1)

  line_at : (k : ℕ) → k < m → line (a + k) + 2 * (2 * (a + k) + 1) ≡ 4 * c
  unfolding line
  line_at k lt = omega arith

  line_part : (n : ℕ) → n ≤ m → total line a n + 2 * (n * n) ≡ 4 * (n * (a + m))
  unfolding summed
  line_part zero h = omega arith
  line_part (suc n) h = omega (arith, line_part n (omega arith), line_at n h)

  line_total : total line a m ≡ 2 * (m * c)
  line_total = omega (arith, line_part m (omega arith))

  tangent : (k : ℕ) → k < m → line (a + k) over (c * c) ≼ midpoint (a + k)
  tangent k lt =
      let x = 2 * (a + k) + 1 in
      omega (arith, squares x c, ap (λ t. t * x) (line_at k lt))

  -- neither k nor k + 1 is above m: both ends of the strip lie on the chord's stretch
  chord : (k : ℕ) → k < m → trapezoid (a + k) ≼ line (a + k) over (4 * a * (a + m))
  chord k lt =
      let j = a + k in
      omega (arith, mul-le-mul_left ((j + 1) * k) (le_of_lt lt), mul-le-mul_left (j * suc k) lt, ap (λ t. t * (2 * j * (j + 1))) (line_at k lt))

  midpoints : 2 * (m * c) over (c * c) ≼ fraction_sum midpoint a m
  midpoints = rw line_total at (gather_below (c * c) line midpoint a m tangent)

  trapezoids : fraction_sum trapezoid a m ≼ 2 * (m * c) over (4 * a * (a + m))
  trapezoids = rw line_total at (gather_above (4 * a * (a + m)) trapezoid line a m chord)

pub midpoint_cut : (m j : ℕ) → 1 ≤ m → midpoint j ≼ fraction_sum midpoint (m * j) m
midpoint_cut m j pos =
    let c = 2 * (m * j) + m in
    ≼_trans _ (2 * (m * c) over (c * c)) _ (mul-pos (omega arith) (omega arith)) (omega arith) (midpoints (m * j) m)

pub trapezoid_cut : (m j : ℕ) → 1 ≤ m → 1 ≤ j → fraction_sum trapezoid (m * j) m ≼ trapezoid j
trapezoid_cut m j hm hj =
    let a = m * j in
    let a_pos = mul-pos hm hj in
    ≼_trans _ (2 * (m * (2 * a + m)) over (4 * a * (a + m))) _ (omega (arith, mul-pos a_pos a_pos)) (trapezoids a m) (omega arith)
