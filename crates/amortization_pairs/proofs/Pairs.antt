-- The two ends round alike at all 87,000 pairs of a rate and a term but three: one test that antt computes, a row of 29 terms for each rate.
-- Assumes nothing.
use mathlib.Core.Path.{◌≡◌, refl, ap}
use mathlib.Core.Bool.{Bool, true, false, not, ◌&&◌, ◌||◌, and-eq-true_iff, false≢true}
use mathlib.Core.Logic.{inl, inr}
use mathlib.Mathlib.Data.Bool.Basic.{dichotomy}
use mathlib.Core.List.{List, [], ◌∷◌, Memᴰ}
use Prim.Native.Nat.{ℕ, zero, suc, ◌+◌, ◌-◌, ◌<◌}
use native.Mathlib.Nat.{add-zero, add-suc, suc-add, add-sub_of_le, le_of_suc-le-suc, not-suc-le-zero}
use native.Mathlib.Omega.{arith}
use lib.Dec.{eqb}
use borrow.Author.Tests.{eqb-true, not-true}
use Rattle.fractions.specs.Fraction.{◌over◌}
use Rattle.fractions.specs.Rounding.{floor, ceiling, nearest}
use Rattle.refusals.specs.Cases.{case, NoneHolds}
use Rattle.refusals.specs.Range.{outside}
use Rattle.refusals.specs.Response.{refused, respond}
use Rattle.refusals.proofs.Response.{absent, behind, front}
use Rattle.amortization.specs.Growth.{principal, year, growth}
use Rattle.amortization.specs.Share.{share, share_by}
use Rattle.amortization.specs.Refusals.{share_response}
use Rattle.amortization.specs.Ranges.{InRange}
use Rattle.amortization.proofs.Given.{in_range}
use Rattle.amortization_pairs.specs.Pairs.{undecided, AllPairs}

-- a pair is in a list, by its test
abbrev listed : ℕ → ℕ → List (ℕ × ℕ) → Bool
listed i n [] = false
listed i n (p ∷ ps) = (eqb i p.0 && eqb n p.1) || listed i n ps

-- the shares of the growth figures l and u round alike, or the pair is one of the three
abbrev passes : ℕ → ℕ → ℕ → ℕ → Bool
passes i n l u = eqb (nearest (share i (u over principal))) (nearest (share i (l over principal))) || listed i n undecided

-- the terms n to n + k − 1, l and u being the growth figures of n years
abbrev row : ℕ → ℕ → ℕ → ℕ → ℕ → Bool
row zero i n l u = true
row (suc k) i n l u = passes i n l u && row k i (suc n) (year floor i l) (year ceiling i u)

-- the terms 2 to 30
abbrev whole : ℕ → Bool
whole i = row 29 i 2 (growth floor i 2) (growth ceiling i 2)

-- the rates i to i + k − 1
abbrev rows : ℕ → ℕ → Bool
rows zero i = true
rows (suc k) i = whole i && rows k (suc i)

-- the test
tested : rows 3_000 1 ≡ true
unfolding growth
tested = refl

-- Tests of k places from n on, one after the other: each place passes.
module _ (one : ℕ → Bool) (all : ℕ → ℕ → Bool) (first : (k n : ℕ) → all (suc k) n ≡ true → (one n ≡ true) × (all k (suc n) ≡ true)) where
  each : (k n : ℕ) → all k n ≡ true → (j : ℕ) → j < k → one (n + j) ≡ true
  each zero n t j lt = absurd (not-suc-le-zero lt)
  each (suc k) n t zero lt = rw (add-zero n) (first k n t).0
  each (suc k) n t (suc j) lt = rw (add-suc, ← suc-add) (each k (suc n) (first k n t).1 j (le_of_suc-le-suc lt))

-- the test at a pair
abbrev at : ℕ → ℕ → Bool
at i n = passes i n (growth floor i n) (growth ceiling i n)

row_at : (i : ℕ) → whole i ≡ true → (j : ℕ) → j < 29 → at i (2 + j) ≡ true
unfolding growth
row_at i =
    each (at i) (λ k n. row k i n (growth floor i n) (growth ceiling i n)) (λ k n. (and-eq-true_iff (at i n) (row k i (suc n) (growth floor i (suc n)) (growth ceiling i (suc n)))).0) 29 2

pair_passes : (i n : ℕ) → InRange i n → at i n ≡ true
pair_passes i n h =
    let its_row = each whole rows (λ k i. (and-eq-true_iff (whole i) (rows k (suc i))).0) 3_000 1 tested (i - 1) (omega arith) in
    rw (add-sub_of_le h.term_least) at (row_at i (rw (add-sub_of_le h.rate_least) at its_row) (n - 2) (omega arith))

-- The three are refused with 42.
three_refused : (i n : ℕ) → Memᴰ (i, n) undecided → share_response i n ≡ refused 42
unfolding respond growth
three_refused i n (Memᴰ.head e) = rw (ap (λ (p : ℕ × ℕ). p.0) e, ap (λ (p : ℕ × ℕ). p.1) e)
three_refused i n (Memᴰ.tail (Memᴰ.head e)) = rw (ap (λ (p : ℕ × ℕ). p.0) e, ap (λ (p : ℕ × ℕ). p.1) e)
three_refused i n (Memᴰ.tail (Memᴰ.tail (Memᴰ.head e))) = rw (ap (λ (p : ℕ × ℕ). p.0) e, ap (λ (p : ℕ × ℕ). p.1) e)
three_refused i n (Memᴰ.tail (Memᴰ.tail (Memᴰ.tail more))) = elim more [ ]

-- A pair that is refused with 42 is in range, and its ends round differently: it is one of the three.
listed_one : (i n : ℕ) (ps : List (ℕ × ℕ)) → listed i n ps ≡ true → Memᴰ (i, n) ps
listed_one i n [] e = absurd (false≢true e)
listed_one i n (p ∷ ps) e =
    elim (dichotomy (eqb i p.0 && eqb n p.1)) [
      | inl f ↦ Memᴰ.tail (listed_one i n ps (rw f at e))
      | inr t ↦
          let both = (and-eq-true_iff (eqb i p.0) (eqb n p.1)).0 t in
          Memᴰ.head (λ j. (eqb-true i p.0 both.0 j, eqb-true n p.1 both.1 j))
    ]

only : (i n : ℕ) → share_response i n ≡ refused 42 → Memᴰ (i, n) undecided
unfolding NoneHolds absent
only i n e =
    let alike = eqb (share_by ceiling i n) (share_by floor i n) in
    let later = behind 42 (case 41 (outside i 1 3_000 || outside n 2 30) ∷ []) (case 42 (not alike) ∷ []) (share_by floor i n ∷ []) refl e in
    let apart = front 42 (not alike) [] (share_by floor i n ∷ []) refl later.1 in
    listed_one i n undecided (rw (not-true alike apart) at (pair_passes i n (in_range i n later.0.0)))

pub all_pairs : AllPairs
all_pairs i n = (only i n, three_refused i n)
