-- Squares: where they lie, and what they grow by.
-- Assumes nothing.
use Prim.Native.Nat.{ℕ, zero, suc, ◌+◌, ◌-◌, ◌*◌, ◌/◌, ◌≤◌, ◌<◌}
use mathlib.Core.Path.{◌≡◌}
use native.Mathlib.Nat.{lt_of_not-le, not-le_of_lt, mul-le-mul, mul-le-mul_left, mul-le-mul_right, div-mul-le_self, div-lt_iff_lt-mul}
use native.Mathlib.Omega.{arith}

pub square_le : {x y : ℕ} (d : ℕ) → x ≤ y → x * x * d ≤ y * y * d
square_le d h = mul-le-mul_right d (mul-le-mul h h)

pub root_lt : {x y : ℕ} (d : ℕ) → x * x * d < y * y * d → x < y
root_lt d h = lt_of_not-le (λ le. not-le_of_lt h (square_le d le))

pub self_le : (n : ℕ) {d : ℕ} → 0 < d → n ≤ n * n * d
self_le zero h = omega arith
self_le (suc n) h = omega (arith, mul-le-mul_left (suc n * suc n) h)

pub factor_pos : (t x : ℕ) {g : ℕ} → g < t * x → 0 < t
factor_pos zero x h = omega arith
factor_pos (suc t) x h = omega arith

-- Newton's rule: where v adds more than g to the square of a, it falls by what is too much over 2 (a + v), rounded up. What it falls to, and
-- 1 more, still adds more than g.
abbrev fall : ℕ → ℕ → ℕ → ℕ
fall a g v = 1 + (v * (2 * a + v) - g - 1) / (2 * (a + v))

pub record NewtonStep (a g v : ℕ) : Type 0 where
  pub fits : fall a g v ≤ v
  pub above : g < (v - fall a g v + 1) * (2 * a + (v - fall a g v + 1))

newton_above : (a g w t : ℕ) → g < (w + t) * (2 * a + (w + t)) → t * (2 * (a + (w + t))) ≤ (w + t) * (2 * a + (w + t)) - g - 1 → g < w * (2 * a + w)
newton_above a g w t lt over = omega arith

pub newton_step : (a g v : ℕ) → g < v * (2 * a + v) → NewtonStep a g v
newton_step a g v lt =
    let t : ℕ = (v * (2 * a + v) - g - 1) / (2 * (a + v)) in
    let some : 0 < v = factor_pos v (2 * a + v) lt in
    let less : t < v = (div-lt_iff_lt-mul {k = 2 * (a + v)} {y = v} (omega arith)).1 (omega arith) in
    let whole : v - (1 + t) + 1 + t ≡ v = omega arith in
    let over = div-mul-le_self (v * (2 * a + v) - g - 1) (2 * (a + v)) in
    record { fits = omega arith; above = newton_above a g (v - (1 + t) + 1) t (rw whole lt) (rw whole over) }
