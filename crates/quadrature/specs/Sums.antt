-- Finite sums: n terms of f, at a, a + 1 and so on; of whole numbers, and of fractions.
-- Assumes nothing.
use Rattle.std.specs.Prelude.{ℕ, zero, suc, ◌+◌}
use Rattle.fractions.specs.Fraction.{Fraction, ◌over◌, plus}

unfoldable pub summed : {A : Type 0} → A → (A → A → A) → (ℕ → A) → ℕ → ℕ → A
summed none add f a zero = none
summed none add f a (suc n) = add (summed none add f a n) (f (a + n))

abbrev pub total : (ℕ → ℕ) → ℕ → ℕ → ℕ
total = summed 0 ◌+◌

abbrev pub fraction_sum : (ℕ → Fraction) → ℕ → ℕ → Fraction
fraction_sum = summed (0 over 1) plus
