-- The share falls as growth rises, so the shares of the two growth figures enclose the exact one.
-- Assumes nothing.
use mathlib.Core.Path.{◌≡◌, ap}
use Prim.Native.Nat.{ℕ, ◌+◌, ◌-◌, ◌*◌, ◌^◌, ◌≤◌, ◌<◌}
use native.Mathlib.Nat.{add-sub_of_le, add-sub_cancel_left, div-eq_of_lt-le, le-div_iff_mul-le, div-lt_iff_lt-mul, pow-zero, pow-suc, le_of_lt, mul-le-mul_left, mul-le-mul_right, mul-lt-mul_of_pos_left, one-le-pow}
use native.Mathlib.Omega.{arith}
use Rattle.fractions.specs.Fraction.{Fraction, ◌over◌, ◌≼◌, ◌≺◌}
use Rattle.fractions.specs.Rounding.{floor, ceiling, nearest}
use Rattle.fractions.proofs.Rounding.{floor_ceiling, nearest_mono}
use Rattle.amortization.specs.Growth.{principal, growth, rounded_growth, exact_growth}
use Rattle.amortization.specs.Share.{share, share_by, exact_share}
use Rattle.amortization.specs.Ranges.{InRange}
use Rattle.amortization.proofs.Growth.{growth_enclosed, simple_interest, at_lowest}

-- both sides are i (d + b) (c + a)
product : (i a b c d : ℕ) → i * (d + b) * a + i * ((d + b) * c) ≡ i * (c + a) * b + i * ((c + a) * d)
product i a b c d = omega arith

module _ (i : ℕ) (g h : Fraction) (hg : g.den < g.num) (hh : h.den < h.num) where
  cleared : (share i h).num * (share i g).den + i * (h.num * g.den) ≡ (share i g).num * (share i h).den + i * (g.num * h.den)
  cleared = omega (arith, rw (add-sub_of_le (le_of_lt hg), add-sub_of_le (le_of_lt hh)) at (product i (g.num - g.den) (h.num - h.den) g.den h.den))

  pub share_falls : 0 < i → g ≺ h → share i h ≺ share i g
  share_falls some less = omega (arith, cleared, mul-lt-mul_of_pos_left less some)

  share_order : g ≼ h → share i h ≼ share i g
  share_order le = omega (arith, cleared, mul-le-mul_left i le)

module _ (i n : ℕ) (some : 1 ≤ i) (years : 1 ≤ n) where
  -- each of the three growths is above 1
  pub floor_grown : principal < growth floor i n
  floor_grown = omega (arith, simple_interest i n, mul-le-mul_left i years)

  pub exact_grown : 10_000 ^ n < (10_000 + i) ^ n
  exact_grown = omega (arith, (growth_enclosed i n).0, mul-le-mul_right (10_000 ^ n) floor_grown, one-le-pow n 10_000 (omega arith))

  -- with every rounding that is not below the one down, growth is above 10⁹
  pub grown : (round : Fraction → ℕ) → ((p : Fraction) → 0 < p.den → floor p ≤ round p) → principal < growth round i n
  grown round least = omega (arith, floor_grown, at_lowest round least i n)

  pub ceiling_grown : principal < growth ceiling i n
  ceiling_grown = grown ceiling floor_ceiling

  pub share_above : share i (exact_growth i n) ≼ share i (rounded_growth floor i n)
  share_above = share_order i (rounded_growth floor i n) (exact_growth i n) floor_grown exact_grown (growth_enclosed i n).0

  pub share_below : share i (rounded_growth ceiling i n) ≼ share i (exact_growth i n)
  share_below = share_order i (exact_growth i n) (rounded_growth ceiling i n) exact_grown ceiling_grown (growth_enclosed i n).1

  -- where the two ends round alike, they round to the exact share
  pub share_exact : share_by ceiling i n ≡ share_by floor i n → share_by floor i n ≡ exact_share i n
  share_exact same =
      let below = nearest_mono (share i (rounded_growth ceiling i n)) (share i (exact_growth i n)) (omega (arith, ceiling_grown)) (omega (arith, exact_grown)) share_below in
      let above = nearest_mono (share i (exact_growth i n)) (share i (rounded_growth floor i n)) (omega (arith, exact_grown)) (omega (arith, floor_grown)) share_above in
      omega (arith, below, above)

-- the share of one year
pub one_year : (i : ℕ) → 1 ≤ i → exact_share i 1 ≡ 10_000 + i
one_year i some =
    let whole : nearest ((i * (10_000 + i)) over i) ≡ 10_000 + i = div-eq_of_lt-le (2 * i) {m = 2 * (i * (10_000 + i)) + i} (omega arith) (omega arith) in
    let once : (10_000 + i) ^ 1 ≡ 10_000 + i = rw (pow-suc (10_000 + i) 0, pow-zero (10_000 + i)) (omega arith) in
    rw (once, add-sub_cancel_left 10_000 i) whole

-- every share is one that a sheet may have
module _ (i n : ℕ) (h : InRange i n) where
  pub share_least : 1 ≤ share_by floor i n
  share_least =
      let grown = floor_grown i n h.rate_least (omega arith) in
      (le-div_iff_mul-le {k = 2 * (growth floor i n - principal)} {x = 1} (omega arith)).1 (omega (arith, mul-le-mul_right (growth floor i n) h.rate_least))

  pub share_most : share_by floor i n ≤ 10_000
  share_most =
      let a = growth floor i n - principal in
      let grown = simple_interest i n in
      let interest = mul-le-mul_left i h.term_least in
      let whole : i * (principal + a) ≡ i * growth floor i n = ap (λ (x : ℕ). i * x) (add-sub_of_le (omega arith)) in
      omega (arith, (div-lt_iff_lt-mul {k = 2 * a} {x = 2 * (i * growth floor i n) + a} {y = 10_001} (omega arith)).1 (omega (arith, mul-le-mul_right a h.rate_most)))
