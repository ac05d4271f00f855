-- What the book's calls respond, and what they leave in the book. 01, "Sent back because of the book" and "The book";
-- and 02, N7.
-- Assumes nothing.
use Rattle.std.specs.Prelude.{ℕ, Bool, true, false, not, ◌&&◌, List, [], ◌∷◌, ◌++◌, leb, eqb, length}
use Rattle.refusals.specs.declared.Refusal.TheVariants.{BookSize, NoSuchEntry, BookFull, EntryUnsound}
use Rattle.refusals.specs.Numbers.{number_of}
use Rattle.refusals.specs.Cases.{Case, case}
use Rattle.refusals.specs.Response.{Response, refused, complete, respond, after}
use Rattle.sheet.specs.Answer.{answer_as}
use Rattle.sheet.specs.Refusals.{cases_as, response_as}
use Rattle.layout.specs.declared.offsets.Layout.{Layout}
use Rattle.layout.specs.OwnKind.{own_layout}
use Rattle.layout.specs.Refusals.{wrong_size, book_cases}
use Rattle.layout.specs.Sizes.{capacity, count}
use Rattle.book.specs.Book.{stored_sheet, stored_answer, new_book, with_entry}

-- whether two runs of bytes are equal
unfoldable pub same_bytes : List ℕ → List ℕ → Bool
same_bytes [] [] = true
same_bytes [] (y ∷ ys) = false
same_bytes (x ∷ xs) [] = false
same_bytes (x ∷ xs) (y ∷ ys) = eqb x y && same_bytes xs ys

-- whether a response is these bytes
abbrev pub gives : Response → List ℕ → Bool
gives (refused n) stored = false
gives (complete bytes) stored = same_bytes bytes stored

module _ (l : Layout) where
  -- "Making a new book has this refusal only; c is then the capacity wanted."
  abbrev pub making_cases : List ℕ → ℕ → List Case
  making_cases b c = case (number_of BookSize) (wrong_size l (length b) c) ∷ []

  -- "These come before 11 to 18.", which are the sheet's
  abbrev pub filing_cases : List ℕ → List ℕ → List Case
  filing_cases b sheet =
      book_cases l b ++
      -- "34: filing, n = c."
      (case (number_of BookFull) (eqb (count l b) (capacity l b)) ∷
      cases_as l.sheets sheet)

  abbrev pub reading_cases : List ℕ → ℕ → List Case
  reading_cases b e =
      book_cases l b ++
      -- "33: reading, e not below n."
      (case (number_of NoSuchEntry) (leb (count l b) e) ∷
      -- "35: reading, the stored sheet is refused or its answer differs from the stored eight bytes."
      case (number_of EntryUnsound) (not (gives (response_as l.sheets (stored_sheet l b e)) (stored_answer l b e))) ∷
      [])

  -- what each call responds, and what it leaves in the book
  abbrev pub making : List ℕ → ℕ → Response
  making b c = respond (making_cases b c) []

  abbrev pub made : List ℕ → ℕ → List ℕ
  made b c = after (making b c) (new_book l c) b

  -- "returns the answer"
  abbrev pub filing : List ℕ → List ℕ → Response
  filing b sheet = respond (filing_cases b sheet) (answer_as l.sheets sheet)

  abbrev pub filed : List ℕ → List ℕ → List ℕ
  filed b sheet = after (filing b sheet) (with_entry l b sheet (answer_as l.sheets sheet)) b

  -- "Reading entry e (0 to n − 1) works the sheet out again and returns the stored sheet with the stored answer."
  abbrev pub reading : List ℕ → ℕ → Response
  reading b e = respond (reading_cases b e) (stored_sheet l b e ++ stored_answer l b e)

-- "The new reader takes both kinds by their first two bytes" (02, N7): filing and reading in the layout that the book itself tells
abbrev pub filing_either : List ℕ → List ℕ → Response
filing_either b = filing (own_layout b) b

abbrev pub filed_either : List ℕ → List ℕ → List ℕ
filed_either b = filed (own_layout b) b

abbrev pub reading_either : List ℕ → ℕ → Response
reading_either b = reading (own_layout b) b
