-- The largest and the least number that pass a test.
-- Assumes nothing.
use Rattle.std.specs.Prelude.{Bool, true, false, ℕ, zero, suc}

-- the largest number up to n that passes a test, 0 where none above 0 does
unfoldable pub largest : (ℕ → Bool) → ℕ → ℕ
largest p zero = 0
largest p (suc n) = elim (p (suc n)) [ true ↦ suc n | false ↦ largest p n ]

-- the least number that passes a test, n where none below n does
unfoldable pub least : (ℕ → Bool) → ℕ → ℕ
least p zero = 0
least p (suc n) = elim (p 0) [ true ↦ 0 | false ↦ suc (least (λ m. p (suc m)) n) ]
