-- Books worked by hand: two sheets of 01 filed in a new book of capacity 2, and one in a larger book of capacity 1. 01, "The book", "Sheets
-- worked by hand", and 02, N7.
-- Assumes nothing.
use Rattle.std.specs.Prelude.{ℕ, ◌+◌, ◌*◌, ◌≡◌, List, [], ◌∷◌, ◌++◌, replicate}
use Rattle.refusals.specs.Response.{refused, complete}
use Rattle.kinds.specs.declared.Kind.TheVariants.{Larger}
use Rattle.sheet.specs.Sheet.{line_number_as}
use Rattle.layout.specs.Layout.{standard, larger, bytes_for}
use Rattle.book.specs.Refusals.{making, made, filing, filed, reading, filing_either, filed_either, reading_either}
use Rattle.worked.specs.Sheets.{sheet_f}

-- sheet F and its answer, for which the listing prints "7 flat 50 within within 30.0"
abbrev F : List ℕ
F = sheet_f 2 800

abbrev answer_f : List ℕ
answer_f = 0 ∷ 2 ∷ 0 ∷ 50 ∷ 0 ∷ 0 ∷ 1 ∷ 44 ∷ []

-- "P5: aim 799: … so 60."; both checks within, 28.5 °C
abbrev P5 : List ℕ
P5 = sheet_f 2 799

abbrev answer_p5 : List ℕ
answer_p5 = 0 ∷ 2 ∷ 0 ∷ 60 ∷ 0 ∷ 0 ∷ 1 ∷ 29 ∷ []

abbrev zeros : ℕ → List ℕ
zeros n = replicate n 0

-- the new book, the book with F, and the book with both
abbrev new : List ℕ
new = (0 ∷ 2 ∷ 0 ∷ 0 ∷ []) ++ zeros 64

abbrev one : List ℕ
one = (0 ∷ 2 ∷ 0 ∷ 1 ∷ []) ++ F ++ zeros 24 ++ answer_f ++ zeros 8

abbrev two : List ℕ
two = (0 ∷ 2 ∷ 0 ∷ 2 ∷ []) ++ F ++ P5 ++ answer_f ++ answer_p5

pub record WorkedBook : Type 0 where
  -- "Length 4 + 32c."
  pub size : (c : ℕ) → bytes_for standard c ≡ 4 + 32 * c
  pub new_made : (making standard (replicate 68 7) 2 ≡ complete []) × (made standard (replicate 68 7) 2 ≡ new)
  pub first : (filing standard new F ≡ complete answer_f) × (filed standard new F ≡ one)
  pub second : (filing standard one P5 ≡ complete answer_p5) × (filed standard one P5 ≡ two)
  pub read : (reading standard two 0 ≡ complete (F ++ answer_f)) × (reading standard two 1 ≡ complete (P5 ++ answer_p5))
  -- "33: reading, e not below n.", "34: filing, n = c."
  pub beyond : reading standard one 1 ≡ refused 33
  pub full : (filing standard two F ≡ refused 34) × (filed standard two F ≡ two)
  -- "35: reading, … its answer differs from the stored eight bytes."
  pub altered : reading standard ((0 ∷ 2 ∷ 0 ∷ 1 ∷ []) ++ F ++ zeros 24 ++ answer_p5 ++ zeros 8) 0 ≡ refused 35

-- sheet F as a larger sheet: line 100,000, and every later field two bytes further on
abbrev pub larger_f : List ℕ
larger_f =
    2 ∷ 1 ∷ 0 ∷ 1 ∷ 134 ∷ 160 ∷ 46 ∷ 224 ∷ 5 ∷ 20 ∷ 0 ∷ 200 ∷ 1 ∷ 144 ∷ 3 ∷ 32 ∷ 0 ∷ 0 ∷ 0 ∷ 0 ∷ 0 ∷ 0 ∷ 0 ∷ 0 ∷ 3 ∷ 32 ∷ []

-- the new larger book, and the book with it
abbrev larger_new : List ℕ
larger_new = (0 ∷ 0 ∷ 0 ∷ 0 ∷ 0 ∷ 1 ∷ 0 ∷ 0 ∷ 0 ∷ 0 ∷ []) ++ zeros 34

abbrev pub larger_one : List ℕ
larger_one = (0 ∷ 0 ∷ 0 ∷ 0 ∷ 0 ∷ 1 ∷ 0 ∷ 0 ∷ 0 ∷ 1 ∷ []) ++ larger_f ++ answer_f

pub record WorkedLargerBook : Type 0 where
  pub line : line_number_as Larger larger_f ≡ 100_000
  -- "over a lent buffer of 10 + 34c bytes"
  pub size : (c : ℕ) → bytes_for larger c ≡ 10 + 34 * c
  pub new_made : (making larger (replicate 44 7) 1 ≡ complete []) × (made larger (replicate 44 7) 1 ≡ larger_new)
  pub first : (filing_either larger_new larger_f ≡ complete answer_f) × (filed_either larger_new larger_f ≡ larger_one)
  pub read : reading_either larger_one 0 ≡ complete (larger_f ++ answer_f)
  pub beyond : reading_either larger_one 1 ≡ refused 33
  pub full : (filing_either larger_one larger_f ≡ refused 34) × (filed_either larger_one larger_f ≡ larger_one)
  -- the 24 bytes of F in a larger book, and the 26 in one of 01
  pub other_size : (filing_either larger_new F ≡ refused 11) × (filing_either new larger_f ≡ refused 11)
  -- "An old reader sees capacity zero and gives 31."
  pub old_reader : reading standard larger_one 0 ≡ refused 31
