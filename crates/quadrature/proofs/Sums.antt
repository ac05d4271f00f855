-- Laws of finite sums: term by term, in parts, in blocks.
-- Assumes nothing.
use mathlib.Core.Path.{◌≡◌, sym}
use Prim.Native.Nat.{ℕ, zero, suc, ◌+◌, ◌-◌, ◌*◌, ◌≤◌, ◌<◌}
use native.Mathlib.Nat.{add-zero, add-suc, add_assoc, mul-zero, mul-suc, mul-add, mul-pos, mul-le-mul_right, le_dest, sub_self}
use native.Mathlib.Omega.{arith}
use Rattle.fractions.specs.Fraction.{Fraction, ◌over◌, plus, ◌≼◌, ◌≺◌}
use Rattle.fractions.proofs.Order.{fraction_path, plus_mono}
use Rattle.quadrature.specs.Sums.{summed, total, fraction_sum}

-- What addition keeps, and what holds term by term, holds of the two sums. The laws up to `gather_above` are cases of it.
pub termwise :
    {A B : Type 0} {none : A} {none' : B} {add : A → A → A} {add' : B → B → B} (R : A → B → Type 0)
    → R none none'
    → ((x u : A) (y v : B) → R x y → R u v → R (add x u) (add' y v))
    → (f : ℕ → A) (g : ℕ → B) (a n : ℕ)
    → ((k : ℕ) → k < n → R (f (a + k)) (g (a + k)))
    → R (summed none add f a n) (summed none' add' g a n)
unfolding summed
termwise R z s f g a zero h = z
termwise R z s f g a (suc n) h = s _ _ _ _ (termwise R z s f g a n (λ k lt. h k (omega arith))) (h n (omega arith))

pub fraction_sum_pos : (f : ℕ → Fraction) (a n : ℕ) → ((k : ℕ) → k < n → 0 < (f (a + k)).den) → 0 < (fraction_sum f a n).den
fraction_sum_pos f = termwise {none' = 0 over 1} {add' = plus} (λ p q. 0 < p.den) (omega arith) (λ p q u v h k. mul-pos h k) f f

pub fraction_sum_mono : (f g : ℕ → Fraction) (a n : ℕ) → ((k : ℕ) → k < n → f (a + k) ≼ g (a + k)) → fraction_sum f a n ≼ fraction_sum g a n
fraction_sum_mono = termwise ◌≼◌ (omega arith) plus_mono

-- whole numbers over one denominator K, below fractions, and above
pub gather_below : (K : ℕ) (g : ℕ → ℕ) (f : ℕ → Fraction) (a n : ℕ) → ((k : ℕ) → k < n → g (a + k) over K ≼ f (a + k)) → total g a n over K ≼ fraction_sum f a n
gather_below K =
    termwise (λ t p. t over K ≼ p) (omega arith) (λ t u p q h k. omega (arith, mul-le-mul_right q.den h, mul-le-mul_right p.den k))

pub gather_above : (K : ℕ) (f : ℕ → Fraction) (g : ℕ → ℕ) (a n : ℕ) → ((k : ℕ) → k < n → f (a + k) ≼ g (a + k) over K) → fraction_sum f a n ≼ total g a n over K
gather_above K =
    termwise (λ p t. p ≼ t over K) (omega arith) (λ p q t u h k. omega (arith, mul-le-mul_right q.den h, mul-le-mul_right p.den k))

-- A sum in two parts; so a longer one is no less; and a sum in blocks of m terms.
module _ {A : Type 0} (none : A) (add : A → A → A) (unit : (x : A) → add x none ≡ x) (assoc : (x y z : A) → add (add x y) z ≡ add x (add y z)) where
  join : (f : ℕ → A) (a n k : ℕ) → summed none add f a (n + k) ≡ add (summed none add f a n) (summed none add f (a + n) k)
  unfolding summed
  join f a n zero = rw add-zero (sym (unit _))
  join f a n (suc k) = rw (add-suc, join f a n k, add_assoc, assoc)

pub total_join : (f : ℕ → ℕ) (a n k : ℕ) → total f a (n + k) ≡ total f a n + total f (a + n) k
total_join = join 0 ◌+◌ add-zero add_assoc

pub total_grows : (f : ℕ → ℕ) (a : ℕ) {n p : ℕ} → n ≤ p → total f a n ≤ total f a p
total_grows f a le = rw (← (le_dest le).1, total_join) (omega arith)

pub fraction_sum_join : (f : ℕ → Fraction) (a n k : ℕ) → fraction_sum f a (n + k) ≡ plus (fraction_sum f a n) (fraction_sum f (a + n) k)
fraction_sum_join = join (0 over 1) plus (λ x. fraction_path (omega arith) (omega arith)) (λ x y z. fraction_path (omega arith) (omega arith))

pub fraction_sum_grows : (f : ℕ → Fraction) (a : ℕ) {n p : ℕ} → n ≤ p → fraction_sum f a n ≼ fraction_sum f a p
fraction_sum_grows f a le = rw (← (le_dest le).1, fraction_sum_join) (omega arith)

-- and where every term is above 0, it is greater
fraction_sum_some : (f : ℕ → Fraction) (a n : ℕ) → ((j : ℕ) → (0 < (f (a + j)).num) × (0 < (f (a + j)).den)) → 0 < (fraction_sum f a (suc n)).num
unfolding summed
fraction_sum_some f a n some = omega (arith, mul-pos (some n).0 (fraction_sum_pos f a n (λ k lt. (some k).1)))

pub fraction_sum_rises : (f : ℕ → Fraction) (a : ℕ) {n p : ℕ} → ((j : ℕ) → (0 < (f (a + j)).num) × (0 < (f (a + j)).den)) → n < p → fraction_sum f a n ≺ fraction_sum f a p
fraction_sum_rises f a {n} {p} some lt =
    let count : p ≡ n + suc (p - suc n) = omega arith in
    let den = fraction_sum_pos f a n (λ j lt. (some j).1) in
    let more = fraction_sum_some f (a + n) (p - suc n) (λ j. rw add_assoc (some (n + j))) in
    rw (count, fraction_sum_join) (omega (arith, mul-pos (mul-pos more den) den))

pub blocks : (f : ℕ → Fraction) (m a n : ℕ) → fraction_sum f (m * a) (m * n) ≡ fraction_sum (λ i. fraction_sum f (m * i) m) a n
unfolding summed
blocks f m a zero = rw mul-zero
blocks f m a (suc n) = rw (mul-suc, fraction_sum_join, blocks f m a n, mul-add)

-- 01, "Ladder and figures": "zero when E = D"
pub log_self : (f : ℕ → ℕ) (d : ℕ) → total f d (d - d) ≡ 0
unfolding summed
log_self f d = rw sub_self
