-- A list of known length, number by number, so that what reads it can be computed.
-- Assumes nothing.
use mathlib.Core.Path.{◌≡◌, refl, ap}
use mathlib.Core.List.{List, [], ◌∷◌}
use Prim.Native.Nat.{ℕ, zero, suc}
use native.Mathlib.Omega.{arith}
use lib.ListN.{length, get_or, drop}

-- a list of n numbers, one by one
unfoldable pub by_places : ℕ → List ℕ → List ℕ
by_places zero l = []
by_places (suc n) l = get_or l 0 0 ∷ by_places n (drop 1 l)

pub one_by_one : (n : ℕ) (l : List ℕ) → length l ≡ n → l ≡ by_places n l
unfolding by_places
one_by_one zero [] e = refl
one_by_one zero (x ∷ l) e = absurd (omega (arith, e))
one_by_one (suc n) [] e = absurd (omega (arith, e))
one_by_one (suc n) (x ∷ l) e = ap (λ (l : List ℕ). x ∷ l) (one_by_one n l (omega (arith, e)))
