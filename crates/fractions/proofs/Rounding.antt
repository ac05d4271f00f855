-- A fraction rounded down is the largest whole number not above it; rounded up, the least not below it; and the nearest whole number.
-- Assumes nothing.
use mathlib.Core.Path.{◌≡◌, sym}
use mathlib.Core.Bool.{cond}
use Prim.Native.Nat.{ℕ, ◌+◌, ◌-◌, ◌*◌, ◌/◌, ◌%◌, ◌≤◌, ◌<◌}
use native.Mathlib.Nat.{le_trans, le_of_mul-le-mul_right, le-div_iff_mul-le, div-lt_iff_lt-mul, div-mul-le_self, lt-div-mul-add, div-add-mod', mod-lt, div-eq_of_lt-le, pos_of_ne-zero, le-mul_of_pos_right, mul-le-mul_right}
use native.Mathlib.Omega.{arith}
use lib.Dec.{eqb, eqb→eq}
use Rattle.std.proofs.lemmas.Bool.{cond_both, eqb-false}
use Rattle.fractions.specs.Fraction.{Fraction, ◌over◌, ◌≼◌}
use Rattle.fractions.specs.Rounding.{floor, ceiling, nearest}

pub floor_below : (p : Fraction) → floor p * p.den ≤ p.num
floor_below p = div-mul-le_self p.num p.den

pub below_next : (p : Fraction) → 0 < p.den → p.num < (floor p + 1) * p.den
below_next p pos = omega (arith, lt-div-mul-add {a = p.num} pos)

pub ceiling_above : (p : Fraction) → 0 < p.den → p.num ≤ ceiling p * p.den
ceiling_above p pos = omega (arith, lt-div-mul-add {a = p.num + (p.den - 1)} pos)

pub ceiling_least : (p : Fraction) (n : ℕ) → 0 < p.den → p.num ≤ n * p.den → ceiling p ≤ n
ceiling_least p n pos le = omega (arith, (div-lt_iff_lt-mul {x = p.num + (p.den - 1)} {y = n + 1} pos).1 (omega arith))

pub floor_ceiling : (p : Fraction) → 0 < p.den → floor p ≤ ceiling p
floor_ceiling p pos = le_of_mul-le-mul_right (le_trans (floor_below p) (ceiling_above p pos)) pos

-- a fraction that is no less is rounded to a number that is no less
pub floor_mono : (p q : Fraction) → 0 < p.den → 0 < q.den → p ≼ q → floor p ≤ floor q
floor_mono p q hp hq le = (le-div_iff_mul-le hq).1 (le_of_mul-le-mul_right (omega (arith, mul-le-mul_right q.den (floor_below p))) hp)

pub ceiling_mono : (p q : Fraction) → 0 < p.den → 0 < q.den → p ≼ q → ceiling p ≤ ceiling q
ceiling_mono p q hp hq le = ceiling_least p (ceiling q) hp (le_of_mul-le-mul_right (omega (arith, mul-le-mul_right p.den (ceiling_above q hq))) hq)

-- by one division: the quotient itself where nothing is left over, else the next number
module _ (n d : ℕ) (pos : 0 < d) where
  pub ceiling_whole : n % d ≡ 0 → ceiling (n over d) ≡ n / d
  ceiling_whole none = div-eq_of_lt-le d {m = n + (d - 1)} (omega (arith, div-add-mod' n d)) (omega (arith, div-add-mod' n d))

  pub ceiling_next : ¬ (n % d ≡ 0) → ceiling (n over d) ≡ n / d + 1
  ceiling_next some =
      let left = pos_of_ne-zero some in
      div-eq_of_lt-le d {m = n + (d - 1)} (omega (arith, div-add-mod' n d)) (omega (arith, div-add-mod' n d, mod-lt n pos))

  pub next_fits : ¬ (n % d ≡ 0) → n / d + 1 ≤ n
  next_fits some = omega (arith, pos_of_ne-zero some, le-mul_of_pos_right (n / d) pos, div-add-mod' n d)

  pub ceiling_by_parts : cond (eqb (n % d) 0) (n / d) (n / d + 1) ≡ ceiling (n over d)
  ceiling_by_parts =
      cond_both (eqb (n % d) 0) _ _ (λ c. c ≡ ceiling (n over d))
      (λ e. sym (ceiling_whole (eqb→eq (n % d) 0 (rw e tt))))
      (λ e. sym (ceiling_next (eqb-false (n % d) 0 e)))

-- The nearest whole number is a fraction rounded down, half of one being added first.
abbrev half_more : Fraction → Fraction
half_more p = (2 * p.num + p.den) over (2 * p.den)

-- s − 1/2 is not above the fraction, and s + 1/2 is above it, s being the nearest whole number
pub nearest_below : (p : Fraction) → nearest p * (2 * p.den) ≤ 2 * p.num + p.den
nearest_below p = floor_below (half_more p)

pub below_half : (p : Fraction) → 0 < p.den → 2 * p.num + p.den < (nearest p + 1) * (2 * p.den)
below_half p pos = below_next (half_more p) (omega arith)

pub nearest_mono : (p q : Fraction) → 0 < p.den → 0 < q.den → p ≼ q → nearest p ≤ nearest q
nearest_mono p q hp hq le = floor_mono (half_more p) (half_more q) (omega arith) (omega arith) (omega (arith, le))
