-- The lines do not depend on how the input is cut into blocks, as long as each block but the last has whole sheets.
-- Assumes nothing.
use mathlib.Core.Path.{◌≡◌, refl, ap, ◌∙◌}
use mathlib.Core.List.{List, [], ◌++◌, append-nil, append_assoc}
use Prim.Native.Nat.{ℕ, zero, suc, ◌+◌, ◌*◌, ◌<◌, ◌≤◌}
use native.Mathlib.Nat.{add-zero, add-suc}
use native.Mathlib.Omega.{arith}
use lib.ListN.{length, drop, length-append, length-drop}
use lib.Seq.{drop-append-add, take-append-le, drop-append-le, take_all}
use Rattle.std.proofs.Common.{min, inl, inr}
use Rattle.std.proofs.lemmas.Bool.{cases_lt}
use Rattle.std.proofs.lemmas.List.{nil_from_length}
use Rattle.text.specs.Text.{concatenated}
use Rattle.listing_text.specs.Line.{line_of}
use Rattle.listing_text.specs.Listing.{chunks, chunk, line_at, lines_of}

module _ (a b : List ℕ) (n : ℕ) (whole : length a ≡ 24 * n) where
  -- the first n chunks are those of a, and the others those of b
  chunk_first : (k : ℕ) → k < n → chunk (a ++ b) k ≡ chunk a k
  chunk_first k lt =
      let rest = length-drop (24 * k) a in
      rw (drop-append-le (24 * k) a b (omega arith)) (take-append-le 24 (drop (24 * k) a) b (omega arith))

  chunk_later : (k : ℕ) → chunk (a ++ b) (n + k) ≡ chunk b k
  chunk_later k =
      let count : 24 * (n + k) ≡ length a + 24 * k = omega arith in
      rw (count, drop-append-add)

  lines_first : (j : ℕ) → j ≤ n → concatenated (line_at (a ++ b)) j ≡ concatenated (line_at a) j
  unfolding concatenated
  lines_first zero le = refl
  lines_first (suc j) le = rw (lines_first j (omega arith), chunk_first j le)

  lines_later : (j : ℕ) → concatenated (line_at (a ++ b)) (n + j) ≡ concatenated (line_at a) n ++ concatenated (line_at b) j
  unfolding concatenated
  lines_later zero = rw (add-zero, append-nil) (lines_first n (omega arith))
  lines_later (suc j) = rw (add-suc, ← append_assoc) (rw (concatenated, lines_later j, chunk_later j))

  pub cut : lines_of (a ++ b) ≡ lines_of a ++ lines_of b
  cut =
      let all : chunks (a ++ b) ≡ n + chunks b = omega (arith, length-append a b) in
      let front : chunks a ≡ n = omega arith in
      rw (all, front) (lines_later (chunks b))

pub none : lines_of [] ≡ []
unfolding concatenated
none = refl

-- a chunk has one line
one : (sheet : List ℕ) → 0 < length sheet → length sheet ≤ 24 → lines_of sheet ≡ line_of sheet
unfolding concatenated
one sheet some most =
    let count : chunks sheet ≡ 1 = omega arith in
    rw (count, take_all 24 sheet most)

-- the first chunk, and the rest
module _ (all sheet rest : List ℕ) (parts : all ≡ sheet ++ rest) (size : length sheet ≡ min 24 (length all)) (some : 0 < length all) where
  pub count : chunks all ≡ 1 + chunks rest
  count = let sum = ap length parts ∙ length-append sheet rest in omega arith

  pub first_line : lines_of all ≡ line_of sheet ++ lines_of rest
  first_line =
      let sum = ap length parts ∙ length-append sheet rest in
      let line = one sheet (omega arith) (omega arith) in
      elim (cases_lt (length all) 24) [
        | inl short ↦
            let last : rest ≡ [] = nil_from_length rest (omega arith) in
            rw (parts, last, none, append-nil, append-nil) line
        | inr long ↦ rw (parts, cut sheet rest 1 (omega arith), line)
      ]
