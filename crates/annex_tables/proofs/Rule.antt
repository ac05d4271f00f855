-- The annex's rule, tested once over a whole table, and what it says of each entry. 01, "Ladder and figures": "1,591 entries for each of the
-- two, the first being 0; each entry is the one before it plus ten steps". One law serves both tables, over the figures f of a step.
-- Assumes nothing.
use mathlib.Core.Path.{◌≡◌, ◌∙◌}
use mathlib.Core.Bool.{Bool, true, false, ◌&&◌}
use mathlib.Core.List.{List, [], ◌∷◌}
use Prim.Native.Nat.{ℕ, zero, suc, ◌+◌, ◌-◌, ◌*◌, ◌<◌}
use native.Mathlib.Nat.{add_assoc, zero-add, add-sub_cancel_left, le_of_suc-le-suc, not-suc-le-zero}
use native.Mathlib.Omega.{arith}
use lib.Dec.{T, eqb, eqb→eq}
use lib.ListN.{length, get_or}
use Rattle.quadrature.specs.Sums.{summed, total}
use Rattle.quadrature.proofs.Sums.{total_join}

both : (a b : Bool) → T (a && b) → T a × T b
both true b t = (tt, t)
both false b t = absurd t

-- each entry is the one before it, p at first, plus the ten steps from d on
abbrev stepwise : (ℕ → ℕ) → ℕ → ℕ → List ℕ → Bool
stepwise f d p [] = true
stepwise f d p (x ∷ xs) = eqb x (p + total f d 10) && stepwise f (d + 10) x xs

abbrev running : (ℕ → ℕ) → List ℕ → Bool
running f [] = false
running f (x ∷ xs) = eqb x 0 && stepwise f 100 0 xs

-- the rule of a table: 1,591 entries, which are running sums
abbrev pub rule : (ℕ → ℕ) → List ℕ → Bool
rule f t = eqb (length t) 1591 && running f t

grown : (f : ℕ → ℕ) (xs : List ℕ) (d p : ℕ) → T (stepwise f d p xs) → (k : ℕ) → k < length xs → get_or xs k 0 ≡ p + total f d (10 * suc k)
grown f [] d p t k h = absurd (not-suc-le-zero h)
grown f (x ∷ xs) d p t zero h = eqb→eq x (p + total f d 10) (both (eqb x (p + total f d 10)) (stepwise f (d + 10) x xs) t).0
grown f (x ∷ xs) d p t (suc k) h =
    let test = both (eqb x (p + total f d 10)) (stepwise f (d + 10) x xs) t in
    let first : x ≡ p + total f d 10 = eqb→eq x (p + total f d 10) test.0 in
    let count : 10 * suc (suc k) ≡ 10 + 10 * suc k = omega arith in
    grown f xs (d + 10) x test.1 k (le_of_suc-le-suc h) ∙ rw (first, count, total_join f d 10 (10 * suc k), add_assoc p)

-- the sum of the 10 k steps from 10.0 mm on
abbrev sum : (ℕ → ℕ) → ℕ → ℕ
sum f k = total f 100 (100 + 10 * k - 100)

-- entry k is that sum
run : (f : ℕ → ℕ) (xs : List ℕ) → T (running f xs) → (k : ℕ) → k < length xs → get_or xs k 0 ≡ sum f k
unfolding summed
run f [] t k h = absurd t
run f (x ∷ xs) t zero h = eqb→eq x 0 (both (eqb x 0) (stepwise f 100 0 xs) t).0
run f (x ∷ xs) t (suc k) h =
    grown f xs 100 0 (both (eqb x 0) (stepwise f 100 0 xs) t).1 k (le_of_suc-le-suc h) ∙ rw (zero-add (total f 100 (10 * suc k)), add-sub_cancel_left 100 (10 * suc k))

-- so at place k of a table of the rule stands the sum of entry k
pub ruled_entry : (f : ℕ → ℕ) (t : List ℕ) → T (rule f t) → (k : ℕ) → k < 1591 → get_or t k 0 ≡ sum f k
ruled_entry f t r k place =
    let sized = both (eqb (length t) 1591) (running f t) r in
    let all : length t ≡ 1591 = eqb→eq (length t) 1591 sized.0 in
    run f t sized.1 k (omega arith)
