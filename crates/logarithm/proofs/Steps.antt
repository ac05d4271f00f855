-- Sums of steps from one diameter to another: one step more, and in two parts; and that they fit 64 bits. The sums are over the figures f
-- of a step; the laws of a logarithm are of both sides.
-- Assumes nothing.
use mathlib.Core.Path.{◌≡◌, sym}
use Prim.Native.Nat.{ℕ, zero, suc, ◌+◌, ◌-◌, ◌*◌, ◌^◌, ◌≤◌, ◌<◌}
use native.Mathlib.Nat.{sub_self, add-sub_of_le, le_trans, div-le_of_le-mul, mul-le-mul_left, mul-le-mul_right}
use native.Mathlib.Omega.{arith}
use Rattle.fractions.specs.declared.Bounds.{Bounds}
use Rattle.fractions.proofs.Sides.{both_of}
use Rattle.lengths.specs.declared.units.Diameter.{Diameter}
use Rattle.lengths.specs.Units.{tenths}
use Rattle.quadrature.specs.Sums.{summed, total}
use Rattle.quadrature.specs.Figures.{tera, lower_step, upper_step, step_bounds, log_bounds}
use Rattle.quadrature.proofs.Sums.{total_join}

one_more : (f : ℕ → ℕ) {d i : ℕ} → d ≤ i → total f d (i + 1 - d) ≡ total f d (i - d) + f i
unfolding summed
one_more f {d} {i} le =
    let count : i + 1 - d ≡ suc (i - d) = omega arith in
    rw (count, add-sub_of_le le)

pub none : (d : ℕ) → record { lower = 0; upper = 0 } ≡ log_bounds (tenths d) (tenths d)
unfolding summed
none d = rw (sub_self d)

split : (f : ℕ → ℕ) {c d e : ℕ} → c ≤ d → d ≤ e → total f c (e - c) ≡ total f c (d - c) + total f d (e - d)
split f {c} {d} {e} le le' =
    let count : e - c ≡ (d - c) + (e - d) = omega arith in
    rw (count, total_join f c (d - c) (e - d), add-sub_of_le le)

-- n steps from d on, none of which is above b
pub total_within : (f : ℕ → ℕ) (b d n : ℕ) → ((i : ℕ) → d ≤ i → f i ≤ b) → total f d n ≤ n * b
unfolding summed
total_within f b d zero each = omega arith
total_within f b d (suc n) each = omega (arith, total_within f b d n each, each (d + n) (omega arith))

-- No step from 10.0 mm on is above 10¹⁰, so the logarithm to e is at most e × 10¹⁰.
abbrev pub Small : (ℕ → ℕ) → Type 0
Small f = (i : ℕ) → 100 ≤ i → f i ≤ 10 ^ 10

pub lower_small : Small lower_step
unfolding lower_step
lower_small i le = div-le_of_le-mul (2 * i + 1) {m = 2 * tera} {n = 10 ^ 10} (omega arith)

pub upper_small : Small upper_step
unfolding upper_step
upper_small i le =
    let d = 2 * i * (i + 1) in
    div-le_of_le-mul d {m = tera * (2 * i + 1) + (d - 1)} {n = 10 ^ 10} (omega (arith, mul-le-mul_left i le))

pub log_small : (f : ℕ → ℕ) → Small f → {d : ℕ} (e : ℕ) → 100 ≤ d → total f d (e - d) ≤ e * 10 ^ 10
log_small f s {d} e le =
    le_trans (total_within f (10 ^ 10) d (e - d) (λ i from. s i (omega arith))) (mul-le-mul_right {m = e - d} {n = e} (10 ^ 10) (omega arith))

-- The logarithm s from d to i and the step x from i are the logarithm to i + 1, which fits.
pub record Next (d i : ℕ) (s x : Bounds) : Type 0 where
  pub sum : record { lower = s.lower + x.lower; upper = s.upper + x.upper } ≡ log_bounds (tenths d) (tenths (i + 1))
  pub lower_fits : s.lower + x.lower < 2 ^ 64
  pub upper_fits : s.upper + x.upper < 2 ^ 64

pub next : {d i j : ℕ} {s x : Bounds} → 100 ≤ d → d ≤ i → i < 16000 → s ≡ log_bounds (tenths d) (tenths i) → x ≡ step_bounds j → j ≡ i → Next d i s x
next {d} {i} from le lt sum step here =
    let lower = one_more lower_step le in
    let upper = one_more upper_step le in
    let lower_fits = log_small lower_step lower_small {d = d} (i + 1) from in
    let upper_fits = log_small upper_step upper_small {d = d} (i + 1) from in
    rw (sum, step, here) record { sum = both_of (sym lower) (sym upper); lower_fits = omega arith; upper_fits = omega arith }

-- The logarithms p from 10.0 mm to d, q from d to e, and r from 10.0 mm to e, which fits.
pub record Joined (p q r : Bounds) : Type 0 where
  pub lower : p.lower + q.lower ≡ r.lower
  pub upper : p.upper + q.upper ≡ r.upper
  pub lower_fits : r.lower < 2 ^ 64
  pub upper_fits : r.upper < 2 ^ 64

pub joined : {d e : Diameter} {p q r : Bounds} → 100 ≤ d.0 → d.0 ≤ e.0 → e.0 ≤ 16000 → p ≡ log_bounds (tenths 100) d → q ≡ log_bounds d e → r ≡ log_bounds (tenths 100) e → Joined p q r
joined {d} {e} from le to first second whole =
    let lower_small_enough = log_small lower_step lower_small {d = 100} e.0 (omega arith) in
    let upper_small_enough = log_small upper_step upper_small {d = 100} e.0 (omega arith) in
    rw (first, second, whole)
    record { lower = sym (split lower_step from le); upper = sym (split upper_step from le); lower_fits = omega arith; upper_fits = omega arith }
