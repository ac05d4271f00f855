-- The fewest digits that hold a number are its decimal digits, and a u64 has 20 at the most.
-- Assumes nothing.
use mathlib.Core.Path.{◌≡◌, refl, ap}
use mathlib.Core.List.{List, [], ◌∷◌, ◌++◌}
use Prim.Native.Nat.{ℕ, zero, suc, ◌+◌, ◌-◌, ◌/◌, ◌%◌, ◌^◌, ◌≤◌, ◌<◌}
use native.Mathlib.Omega.{arith}
use native.Mathlib.Nat.{mod-eq_of_lt, pow-le-pow_right}
use borrow.Author.Tests.{lt-ltb, le-ltb}
use Rattle.io.specs.Digits.{last_digits, IsDigitCount}
use Rattle.text.specs.Text.{decimal_up_to, decimal}

one_digit : (f n : ℕ) → n < 10 → decimal_up_to f n ≡ (48 + n) ∷ []
unfolding decimal_up_to
one_digit zero n lt = refl
one_digit (suc f) n lt = rw (lt-ltb n 10 lt, decimal_up_to)

spelt : (k f n : ℕ) → n < 10 ^ suc k → (0 < k → 10 ^ k ≤ n) → n ≤ f → last_digits 10 (suc k) n ≡ decimal_up_to f n
unfolding decimal_up_to
spelt zero f n lt least le = rw (one_digit f n (omega arith), mod-eq_of_lt {n = n} {m = 10} (omega arith), lt-ltb n 10 (omega arith))
spelt (suc k) zero n lt least le = absurd (omega (arith, least (omega arith)))
spelt (suc k) (suc f) n lt least le =
    rw (le-ltb n 10 (omega (arith, least (omega arith))), decimal_up_to, lt-ltb (n % 10) 10 (omega arith))
    (ap (λ (t : List ℕ). t ++ ((48 + n % 10) ∷ [])) (spelt k f (n / 10) (omega arith) (λ some. omega (arith, least (omega arith))) (omega (arith, least (omega arith)))))

pub fewest : (n k : ℕ) → IsDigitCount 10 1 n k → last_digits 10 k n ≡ decimal n
unfolding decimal
fewest n zero few = absurd (omega arith)
fewest n (suc k) few =
    let count : suc k - 1 ≡ k = omega arith in
    spelt k n n few.1 (λ some. rw count at (few.2 (omega arith))) (omega arith)

-- what `io::decimal` ensures of its digits: what holds of them, as that they were put, holds of the decimal digits
pub in_decimal : (P : List ℕ → Type 0) {v : List ℕ} {n k : ℕ} → P v → v ≡ last_digits 10 k n → IsDigitCount 10 1 n k → P (decimal n)
in_decimal P {n = n} {k} put is few = rw (is, fewest n k few) at put

-- a u64 has 20 digits at the most
pub at_most_20 : {n k : ℕ} → IsDigitCount 10 1 n k → n < 2 ^ 64 → k ≤ 20
at_most_20 {n} {k} few lt =
    let no_more : 20 < k → ⊥ = λ over. omega (arith, few.2 (omega arith), pow-le-pow_right {n = 10} (omega arith) {i = 20} {j = k - 1} (omega arith)) in
    omega arith
