-- The root of k² n / d in two parts: k times the whole root u of n / d, and v more.
-- Assumes nothing.
use mathlib.Core.Path.{◌≡◌, ap}
use mathlib.Core.Bool.{cond}
use Prim.Native.Nat.{ℕ, ◌+◌, ◌-◌, ◌*◌, ◌/◌, ◌%◌, ◌^◌, ◌≤◌, ◌<◌}
use native.Mathlib.Nat.{add-sub_of_le, mul-le-mul, mul-le-mul_left, mul-le-mul_right, mul-lt-mul_of_pos_left, mul-pos, mod-lt, div-add-mod', div-lt_iff_lt-mul, le-mul_of_pos_right}
use native.Mathlib.Omega.{arith}
use lib.Dec.{eqb, eqb→eq}
use Rattle.std.proofs.lemmas.Bool.{cond_both, eqb-false}
use Rattle.fractions.specs.Fraction.{◌over◌}
use Rattle.roots.specs.Root.{floor_root, ceiling_root}
use Rattle.roots.proofs.Squares.{square_le}
use Rattle.roots.proofs.Roots.{floor_root_is, ceiling_root_is}

-- r is the root of a / d rounded down, and rounded up where nothing is left; else the next number is
pub record Rounded (a d r left : ℕ) : Type 0 where
  pub lower : r ≡ floor_root (a over d)
  pub upper : cond (eqb left 0) r (r + 1) ≡ ceiling_root (a over d)

-- So it is where a is (r² + s) d + t, with s too little for the next square and t too little for the next multiple.
rounded : (a d r s t : ℕ) → 0 < d → a ≡ (r * r + s) * d + t → s < 2 * r + 1 → t < d → Rounded a d r (s + t)
rounded a d r s t pos e short rest =
    let above : a < (r + 1) * (r + 1) * d = omega (arith, mul-le-mul_right d short) in
    record {
      lower = floor_root_is (a over d) pos r (omega arith) above;
      upper =
          cond_both (eqb (s + t) 0) r (r + 1) (λ n. n ≡ ceiling_root (a over d))
          (λ whole.
          let none : s + t ≡ 0 = eqb→eq (s + t) 0 (rw whole tt) in
          let no_s : s ≡ 0 = omega arith in
          let square : a ≡ r * r * d = omega (arith, ap (λ x. x * d) no_s) in
          ceiling_root_is (a over d) pos r (omega arith) (λ x lt. omega (arith, mul-le-mul_right d (mul-le-mul lt lt))))
          (λ more.
          let some : ¬ (s + t ≡ 0) = eqb-false (s + t) 0 more in
          let below : r * r * d < a = omega (arith, le-mul_of_pos_right s pos) in
          ceiling_root_is (a over d) pos (r + 1) (omega arith) (λ x lt. omega (arith, square_le {x = x} {y = r} d (omega arith))));
    }

-- what the square of k u lacks of k² n / d
abbrev pub gap : ℕ → ℕ → ℕ → ℕ → ℕ
gap k n d u = k * k * (n / d - u * u) + k * k * (n % d) / d

-- k² n, from n = w d + m, w = u² + x, k² m = q d + t, and k² x + q = v (2 k u + v) + s
whole : (k n d u v w m x q s t : ℕ) → w * d + m ≡ n → u * u + x ≡ w → q * d + t ≡ k * k * m → v * (2 * (k * u) + v) + s ≡ k * k * x + q → k * k * n ≡ ((k * u + v) * (k * u + v) + s) * d + t
whole k n d u v w m x q s t e-n e-w e-m e-gap =
    omega (arith, ap (λ y. k * k * y) e-n, ap (λ y. k * k * y * d) e-w, ap (λ y. y * d) e-gap)

-- both parts, and what is left past them
abbrev pub BothParts : ℕ → ℕ → ℕ → ℕ → ℕ → Type 0
BothParts k n d u v = Rounded (k * k * n) d (k * u + v) (gap k n d u - v * (2 * (k * u) + v) + k * k * (n % d) % d)

pub both_parts : (k n d u v : ℕ) → 0 < d → u * u ≤ n / d → v * (2 * (k * u) + v) ≤ gap k n d u → gap k n d u < (v + 1) * (2 * (k * u) + (v + 1)) → BothParts k n d u v
both_parts k n d u v pos low fits over-v =
    let s : ℕ = gap k n d u - v * (2 * (k * u) + v) in
    let t : ℕ = k * k * (n % d) % d in
    let e = whole k n d u v (n / d) (n % d) (n / d - u * u) (k * k * (n % d) / d) s t (div-add-mod' n d) (add-sub_of_le low) (div-add-mod' (k * k * (n % d)) d) (add-sub_of_le fits) in
    rounded (k * k * n) d (k * u + v) s t pos e (omega arith) (mod-lt (k * k * (n % d)) pos)

-- What is known of the first part, with the sizes that keep every step within 64 bits.
pub record FirstPart (k n d u : ℕ) : Type 0 where
  pub low : u * u ≤ n / d
  pub lacks : n / d - u * u ≤ 2 * u
  pub root : k * u ≤ 2 ^ 12 * 2 ^ 32
  pub square : k * k * (n / d - u * u) ≤ 2 ^ 12 * 2 ^ 12 * (2 * 2 ^ 32)
  pub small : gap k n d u < k * (2 * (k * u) + k)
  pub top : k * (2 * (k * u) + k) ≤ 2 ^ 12 * 2 ^ 46

-- a bound on a product, from numerals above its factors
pub product_le : {x y : ℕ} (a b : ℕ) → x ≤ a → y ≤ b → x * y ≤ a * b
product_le a b h h' = mul-le-mul h h'

pub first_part : (k n d u : ℕ) → 0 < k → k < 4096 → 0 < d → u * u ≤ n / d → n / d < (u + 1) * (u + 1) → u < 2 ^ 32 → FirstPart k n d u
first_part k n d u some small pos low next u-small =
    let most : n / d - u * u ≤ 2 * u = omega arith in
    let times : k * u ≤ 2 ^ 12 * 2 ^ 32 = product_le (2 ^ 12) (2 ^ 32) (omega arith) (omega arith) in
    let part : k * k * (n % d) / d < k * k = (div-lt_iff_lt-mul pos).1 (mul-lt-mul_of_pos_left (mod-lt n pos) (mul-pos some some)) in
    record {
      low = low;
      lacks = most;
      root = times;
      square = product_le (2 ^ 12 * 2 ^ 12) (2 * 2 ^ 32) (product_le (2 ^ 12) (2 ^ 12) (omega arith) (omega arith)) (omega arith);
      small = omega (arith, mul-le-mul_left (k * k) most);
      top = product_le (2 ^ 12) (2 ^ 46) (omega arith) (omega arith);
    }
