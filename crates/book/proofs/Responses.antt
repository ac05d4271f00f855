-- What filing and reading respond in a sound book, of which neither 31 nor 32 holds.
-- Assumes nothing.
use mathlib.Core.Path.{◌≡◌}
use mathlib.Core.Bool.{Bool, not}
use mathlib.Core.List.{List, [], ◌∷◌, ◌++◌}
use Prim.Native.Nat.{ℕ, ◌<◌}
use lib.Dec.{leb, eqb}
use borrow.Author.Tests.{ne_eqb, lt-leb}
use Rattle.refusals.specs.Cases.{case}
use Rattle.refusals.specs.Response.{respond}
use Rattle.refusals.proofs.Response.{later}
use Rattle.sheet.specs.Answer.{answer_as}
use Rattle.sheet.specs.Refusals.{cases_as, response_as}
use Rattle.layout.specs.declared.offsets.Layout.{Layout}
use Rattle.layout.specs.declared.examination.Sizes.{Sizes}
use Rattle.layout.specs.Refusals.{book_cases}
use Rattle.layout.specs.SoundBook.{SoundBook}
use Rattle.layout.proofs.Soundness.{unrefused}
use Rattle.book.specs.Book.{stored_sheet, stored_answer}
use Rattle.book.specs.Refusals.{gives, filing, reading}

module _ {l : Layout} {b : List ℕ} {sizes : Sizes} (is : SoundBook l b sizes) where
  pub filing_sound : (sheet : List ℕ) → filing l b sheet ≡ respond (case 34 (eqb sizes.count sizes.capacity) ∷ cases_as l.sheets sheet) (answer_as l.sheets sheet)
  filing_sound sheet = rw (is.capacity_is, is.count_is) (later (book_cases l b) _ _ (unrefused l b is))

  -- where there is room the sheet decides
  pub filing_room : (sheet : List ℕ) → ¬ (sizes.count ≡ sizes.capacity) → filing l b sheet ≡ response_as l.sheets sheet
  unfolding respond
  filing_room sheet not = rw (ne_eqb _ _ not) at (filing_sound sheet)

  pub reading_sound :
      (e : ℕ) {sheet answer : List ℕ} → sheet ≡ stored_sheet l b e → answer ≡ stored_answer l b e →
      reading l b e ≡ respond (case 33 (leb sizes.count e) ∷ case 35 (not (gives (response_as l.sheets sheet) answer)) ∷ []) (sheet ++ answer)
  reading_sound e sheet_is answer_is = rw (is.count_is, sheet_is, answer_is) (later (book_cases l b) _ _ (unrefused l b is))

  -- below the count there is an entry, and case 35 decides
  pub reading_below :
      (e : ℕ) {sheet answer : List ℕ} (right : Bool) → e < sizes.count → sheet ≡ stored_sheet l b e → answer ≡ stored_answer l b e →
      right ≡ gives (response_as l.sheets sheet) answer → reading l b e ≡ respond (case 35 (not right) ∷ []) (sheet ++ answer)
  unfolding respond
  reading_below e right below sheet_is answer_is told = rw (lt-leb _ _ below, ← told) at (reading_sound e sheet_is answer_is)
