-- Line numbers beyond 65,535: the larger sheet and the larger book beside those of 01. 02, N7.
-- Assumes nothing.
use Rattle.std.specs.Prelude.{ℕ, ◌+◌, ◌*◌, ◌<◌, ◌≡◌, true, false, not, ◌||◌, List, [], ◌∷◌, ◌++◌, ltb, eqb, length}
use Rattle.refusals.specs.Range.{outside}
use Rattle.refusals.specs.Cases.{NoneHolds, case}
use Rattle.refusals.specs.Response.{refused}
use Rattle.big_endian.specs.Bytes.{big_endian, bytes_of}
use Rattle.kinds.specs.declared.Kind.TheVariants.{Larger}
use Rattle.kinds.specs.Kind.{sheet_size}
use Rattle.sheet.specs.Sheet.{line_number_as, decoded, decoded_as}
use Rattle.sheet.specs.Refusals.{response_as, response_to}
use Rattle.layout.specs.declared.offsets.Layout.{Layout}
use Rattle.layout.specs.Layout.{standard, larger, sheet_offset, answer_offset}
use Rattle.layout.specs.OwnKind.{starts_with_zeros}
use Rattle.layout.specs.Sizes.{capacity}
use Rattle.layout.specs.Refusals.{book_cases}
use Rattle.book.specs.Refusals.{filing, filed, reading, filing_either, filed_either, reading_either}

-- "The sheet's line number grows to four bytes and the sheet to 26."
pub record LargerSheets : Type 0 where
  pub size : sheet_size Larger ≡ 26
  -- the line numbers are those that four bytes hold, "six digits" among them
  pub numbers : (goal service n : ℕ) (rest : List ℕ) → n < 4_294_967_296 → line_number_as Larger (goal ∷ service ∷ bytes_of 4 n ++ rest) ≡ n
  -- whatever its line number is, m here: its other fields, and what is responded to it, are those of the standard sheet with the same other
  -- bytes, whatever that one's line number is, n here; so what is promised of standard sheets holds of larger ones
  pub as_standard :
      (goal service n₁ n₂ m₁ m₂ m₃ m₄ : ℕ) (rest : List ℕ) →
      let long = goal ∷ service ∷ m₁ ∷ m₂ ∷ m₃ ∷ m₄ ∷ rest in
      let short = goal ∷ service ∷ n₁ ∷ n₂ ∷ rest in
      (decoded_as Larger long ≡ decoded short) × (response_as Larger long ≡ response_to short)

-- "The larger book starts with two zero bytes, then capacity and count in four bytes each, then the two arrays. Its capacity runs to
-- 100,000, over a lent buffer of 10 + 34c bytes.": "31 and 32 restated for the larger sizes"
abbrev pub Restated : List ℕ → Type 0
Restated b =
    let c = big_endian b 2 4 in
    let n = big_endian b 6 4 in
    book_cases larger b ≡ (case 31 (ltb (length b) 10 || (outside c 1 100_000 || not (eqb (length b) (10 + 34 * c)))) ∷ case 32 (ltb c n) ∷ [])

-- where slot e of each array starts
abbrev pub Slots : ℕ → ℕ → Type 0
Slots c e = (sheet_offset larger e ≡ 10 + 26 * e) × (answer_offset larger c e ≡ 10 + 26 * c + 8 * e)

-- "An old reader sees capacity zero and gives 31.", whatever the book holds
pub record OldReader (book : List ℕ) : Type 0 where
  pub no_capacity : capacity standard book ≡ 0
  pub no_filing : (sheet : List ℕ) → (filing standard book sheet ≡ refused 31) × (filed standard book sheet ≡ book)
  pub no_reading : (e : ℕ) → reading standard book e ≡ refused 31

-- "The new reader takes both kinds": filing and reading are those of a layout
pub record TakenIn (l : Layout) (book : List ℕ) : Type 0 where
  pub same_filing : (sheet : List ℕ) → (filing_either book sheet ≡ filing l book sheet) × (filed_either book sheet ≡ filed l book sheet)
  pub same_reading : (e : ℕ) → reading_either book e ≡ reading l book e

-- "by their first two bytes": a book that starts with two zero bytes, which was refused so far, is taken as a larger one; every other, and
-- so every standard book for which neither 31 nor 32 holds, as before
pub record BothKinds : Type 0 where
  pub larger_sheets : LargerSheets
  pub restated : (book : List ℕ) → Restated book
  pub slots : (c e : ℕ) → Slots c e
  pub as_larger : (book : List ℕ) → starts_with_zeros book ≡ true → OldReader book × TakenIn larger book
  pub as_before : (book : List ℕ) → starts_with_zeros book ≡ false → TakenIn standard book
  pub sound_standard : (book : List ℕ) → NoneHolds (book_cases standard book) → TakenIn standard book
