-- Two runs of bytes compared byte by byte.
-- Assumes nothing.
use mathlib.Core.Path.{◌≡◌, refl, sym}
use mathlib.Core.Bool.{Bool, true, false, and-eq-true_iff}
use mathlib.Core.List.{List, [], ◌∷◌}
use Prim.Native.Nat.{ℕ}
use lib.Dec.{eqb}
use borrow.Author.Tests.{eq-eqb, eqb-true}
use Rattle.book.specs.Refusals.{same_bytes}

pub same_equal : (a b : List ℕ) → same_bytes a b ≡ true → a ≡ b
unfolding same_bytes
same_equal [] [] e = refl
same_equal [] (y ∷ ys) e = cc
same_equal (x ∷ xs) [] e = cc
same_equal (x ∷ xs) (y ∷ ys) e =
    let both = (and-eq-true_iff (eqb x y) (same_bytes xs ys)).0 e in
    rw (eqb-true x y both.0, same_equal xs ys both.1)

pub same_self : (bytes : List ℕ) → same_bytes bytes bytes ≡ true
unfolding same_bytes
same_self [] = refl
same_self (x ∷ xs) = rw (eq-eqb x x refl, same_self xs)

-- a test that holds of equal runs and of no others
pub compared : (r : Bool) (a b : List ℕ) → (r ≡ true → a ≡ b) × (a ≡ b → r ≡ true) → r ≡ same_bytes a b
compared true a b told = rw (told.0 refl) (sym (same_self b))
compared false a b told = by (same_bytes a b) refl
  where
    by : (x : Bool) → same_bytes a b ≡ x → false ≡ x
    by true e = told.1 (same_equal a b e)
    by false e = refl
