-- Growth figures.
-- Assumes nothing.
use Prim.Native.Nat.{ℕ, zero, suc, ◌+◌, ◌*◌, ◌^◌, ◌≤◌, ◌<◌}
use native.Mathlib.Nat.{le_refl, le_trans, mul-le-mul, mul-le-mul_right, mul-suc, pow-zero, pow-suc}
use native.Mathlib.Omega.{arith}
use borrow.Enum.Match.{each_below}
use Rattle.fractions.specs.Fraction.{Fraction, ◌over◌, ◌≼◌}
use Rattle.fractions.specs.Rounding.{floor, ceiling}
use Rattle.fractions.proofs.Rounding.{floor_below, ceiling_above, floor_mono, ceiling_mono}
use Rattle.amortization.specs.Growth.{principal, growth, rounded_growth, exact_growth}

-- "once rounded down and once up": the exact growth lies between the two
pub growth_enclosed : (i n : ℕ) → (rounded_growth floor i n ≼ exact_growth i n) × (exact_growth i n ≼ rounded_growth ceiling i n)
unfolding growth
growth_enclosed i zero = omega (arith, pow-zero (10_000 + i))
growth_enclosed i (suc n) =
    let before = growth_enclosed i n in
    let low = floor_below ((growth floor i n * (10_000 + i)) over 10_000) in
    let high = ceiling_above ((growth ceiling i n * (10_000 + i)) over 10_000) (omega arith) in
    rw (pow-suc 10_000 n, pow-suc (10_000 + i) n) (omega (arith, mul-le-mul_right (10_000 ^ n) low, mul-le-mul_right (10_000 + i) before.0), omega (arith, mul-le-mul_right (10_000 ^ n) high, mul-le-mul_right (10_000 + i) before.1))

-- compound interest is no less than simple interest
pub simple_interest : (i n : ℕ) → principal + 100_000 * (i * n) ≤ growth floor i n
unfolding growth
simple_interest i zero = omega arith
simple_interest i (suc n) =
    let before = simple_interest i n in
    omega (arith, before, mul-le-mul_right {m = principal} {n = growth floor i n} i (omega (arith, before)), mul-suc i n)

-- No growth is above that at the highest rate, rounded up, which is known for thirty years.
module _ (round : Fraction → ℕ) (most : (p : Fraction) → 0 < p.den → round p ≤ ceiling p) where
  at_highest : (i n : ℕ) → i ≤ 3_000 → growth round i n ≤ growth ceiling 3_000 n
  unfolding growth
  at_highest i zero rate = le_refl principal
  at_highest i (suc n) rate =
      let p : Fraction = (growth round i n * (10_000 + i)) over 10_000 in
      let factors = mul-le-mul {m₁ = 10_000 + i} {m₂ = 13_000} (at_highest i n rate) (omega arith) in
      le_trans (most p (omega arith)) (ceiling_mono p ((growth ceiling 3_000 n * 13_000) over 10_000) (omega arith) (omega arith) (omega arith))

highest : (n : ℕ) → n < 31 → growth ceiling 3_000 n ≤ 2_619_995_644_000
unfolding growth
highest = each_below 31 (λ n. growth ceiling 3_000 n ≤ 2_619_995_644_000) (omega arith)

-- so the product of a year fits
pub year_fits : (round : Fraction → ℕ) → ((p : Fraction) → 0 < p.den → round p ≤ ceiling p) → (i n : ℕ) → i ≤ 3_000 → n ≤ 30 → growth round i n * (10_000 + i) < 1_000_000_000_000_000_000
year_fits round most i n rate term =
    omega (arith, highest n (omega arith), mul-le-mul {m₁ = 10_000 + i} {m₂ = 13_000} (at_highest round most i n rate) (omega arith))

-- no growth is below the one rounded down
pub at_lowest : (round : Fraction → ℕ) → ((p : Fraction) → 0 < p.den → floor p ≤ round p) → (i n : ℕ) → growth floor i n ≤ growth round i n
unfolding growth
at_lowest round least i zero = le_refl principal
at_lowest round least i (suc n) =
    let p : Fraction = (growth round i n * (10_000 + i)) over 10_000 in
    let factors = mul-le-mul_right (10_000 + i) (at_lowest round least i n) in
    le_trans (floor_mono ((growth floor i n * (10_000 + i)) over 10_000) p (omega arith) (omega arith) (omega arith)) (least p (omega arith))
