-- An entry filed in a new book of either kind reads back equal: filing keeps the kind and every entry, and the new one is the sheet with
-- its answer.
-- Assumes nothing.
use mathlib.Core.Path.{◌≡◌, refl, sym, ap, ◌∙◌}
use mathlib.Core.List.{List, [], ◌∷◌, ◌++◌}
use Prim.Native.Nat.{ℕ, ◌≤◌, ◌<◌}
use native.Mathlib.Omega.{arith}
use lib.ListN.{length}
use borrow.Author.Tests.{lt-leb, eqb-false}
use Rattle.refusals.specs.Cases.{NoneHolds}
use Rattle.refusals.specs.Response.{Response, refused, complete, respond, after}
use Rattle.refusals.proofs.Response.{completed, none_holds}
use Rattle.big_endian.specs.Bytes.{bytes_of}
use Rattle.answer.specs.Answer.{encoded}
use Rattle.sheet.specs.Answer.{answer_as}
use Rattle.sheet.specs.Refusals.{cases_as, response_as}
use Rattle.kinds.specs.declared.Kind.{Kind}
use Rattle.kinds.specs.declared.Kind.TheVariants.{Standard, Larger}
use Rattle.layout.specs.declared.offsets.Layout.{Layout}
use Rattle.layout.specs.Layout.{bytes_for, layout_of}
use Rattle.layout.specs.OwnKind.{own_kind}
use Rattle.layout.specs.Sizes.{capacity, count}
use Rattle.layout.proofs.Soundness.{right_size, sound}
use Rattle.layout.proofs.BothKinds.{usable_of}
use Rattle.book.specs.Book.{stored_sheet, stored_answer, with_entry}
use Rattle.book.specs.Refusals.{making_cases, filing_cases, making, made, filing, reading, filing_either, filed_either}
use Rattle.book.proofs.Responses.{filing_room, reading_sound}
use Rattle.book.proofs.Sameness.{same_self}
use Rattle.book.proofs.SheetSize.{size_answered}
use Rattle.demands.specs.Demands.{filed_all, filed_in_new, ReadsBack, TakesSheets}
use Rattle.demands.proofs.Entries.{stated, Sound, Room, new_capacity, new_count, new_sound, new_kind, before_count, same_kind, same_capacity, still_sound, raised, new_sheet, new_answer, same_sheet, same_answer}

-- the sheets of a kind's book are of that kind
sheets_of : (kind : Kind) → (layout_of kind).sheets ≡ kind
sheets_of Standard = refl
sheets_of Larger = refl

module _ (kind : Kind) where
  abbrev l : Layout
  l = layout_of kind

  abbrev bytes_to : List ℕ → List ℕ
  bytes_to = answer_as l.sheets

  -- a sound book of this kind
  record IsBook (book : List ℕ) : Type 0 where
    kind_is : own_kind book ≡ kind
    is : Sound l book

  -- such a book with this sheet and its answer as entry e
  record Holds (e : ℕ) (sheet book : List ℕ) : Type 0 where
    its : IsBook book
    below : e < count l book
    sheet_there : stored_sheet l book e ≡ sheet
    answer_there : stored_answer l book e ≡ bytes_to sheet

  -- what holds where a filing is complete
  complete_filing :
      (book sheet : List ℕ) {bytes : List ℕ} → filing l book sheet ≡ complete bytes →
      Room l book sheet (bytes_to sheet) × (response_as l.sheets sheet ≡ complete bytes) × (bytes_to sheet ≡ bytes)
  unfolding NoneHolds encoded bytes_of
  complete_filing book sheet h =
      let got = completed (filing_cases l book sheet) (bytes_to sheet) _ h in
      let none = got.0 in
      let is = sound l book (stated l book) (usable_of kind) (none.0, (none.1.0, tt)) refl refl in
      let free : ¬ (count l book ≡ capacity l book) = eqb-false _ _ none.1.1.0 in
      let answered = none_holds (cases_as l.sheets sheet) (bytes_to sheet) none.1.1.1 ∙ ap complete got.1 in
      (record { is = is; free = omega (arith, is.counted); slot = size_answered l.sheets sheet answered; eight = refl }, answered, got.1)

  -- what holds of every book that filings make of one that has it
  kept :
      (P : List ℕ → Type 0) → ((book : List ℕ) → P book → own_kind book ≡ kind) →
      ((book sheet : List ℕ) → P book → Room l book sheet (bytes_to sheet) → P (with_entry l book sheet (bytes_to sheet))) →
      (sheets : List (List ℕ)) (book : List ℕ) → P book → P (filed_all book sheets)
  unfolding filed_all
  kept P told more [] book p = p
  kept P told more (sheet ∷ sheets) book p = kept P told more sheets (filed_either book sheet) (rw (told book p) (go (filing l book sheet) refl))
    where
      go : (r : Response) → filing l book sheet ≡ r → P (after r (with_entry l book sheet (bytes_to sheet)) book)
      go (refused n) h = p
      go (complete bytes) h = more book sheet p (complete_filing book sheet h).0

  module _ (book sheet : List ℕ) (r : Room l book sheet (bytes_to sheet)) where
    abbrev bytes : List ℕ
    bytes = bytes_to sheet

    still : IsBook book → IsBook (with_entry l book sheet bytes)
    still b = record { kind_is = same_kind l book sheet bytes r (before_count kind) ∙ b.kind_is; is = still_sound l book sheet bytes r }

    entry_kept : (e : ℕ) (old : List ℕ) → Holds e old book → Holds e old (with_entry l book sheet bytes)
    entry_kept e old h = record { its = still h.its; below = rw (raised l book sheet bytes r) (omega arith); sheet_there = same_sheet l book sheet bytes r e h.below ∙ h.sheet_there; answer_there = same_answer l book sheet bytes r e h.below ∙ h.answer_there }

    entry_new : IsBook book → Holds (count l book) sheet (with_entry l book sheet bytes)
    entry_new b = record { its = still b; below = rw (raised l book sheet bytes r) (omega arith); sheet_there = new_sheet l book sheet bytes r; answer_there = new_answer l book sheet bytes r }

  reads : (e : ℕ) (sheet book : List ℕ) → response_as l.sheets sheet ≡ complete (bytes_to sheet) → Holds e sheet book → reading l book e ≡ complete (sheet ++ bytes_to sheet)
  unfolding respond
  reads e sheet book answered h =
      rw (reading_sound h.its.is e (sym h.sheet_there) (sym h.answer_there), lt-leb _ _ h.below, answered, same_self (bytes_to sheet))

  -- a book that filings made of a new one of capacity c
  module _ (lent : List ℕ) (c : ℕ) (made_so : making l lent c ≡ complete []) where
    record Kept (book : List ℕ) : Type 0 where
      its : IsBook book
      holds_c : capacity l book ≡ c

    fits : (1 ≤ c) × (c ≤ l.largest) × (length lent ≡ bytes_for l c)
    unfolding NoneHolds
    fits = right_size l (length lent) c (completed (making_cases l lent c) [] [] made_so).0.0

    new : Kept (made l lent c)
    new = rw made_so (record { its = record { kind_is = new_kind kind c fits.0 fits.1; is = new_sound l c (usable_of kind) fits.1 fits.0 }; holds_c = new_capacity l c (usable_of kind) fits.1 })

    still_kept : (before : List (List ℕ)) → Kept (filed_in_new kind lent c before)
    still_kept before =
        kept Kept (λ book k. k.its.kind_is)
        (λ book sheet k r. record { its = still book sheet r k.its; holds_c = same_capacity l book sheet (bytes_to sheet) r ∙ k.holds_c })
        before (made l lent c) new

    -- where a filing is complete
    filed_in : (before : List (List ℕ)) (sheet bytes : List ℕ) → let book = filed_in_new kind lent c before in filing_either book sheet ≡ complete bytes → filing l book sheet ≡ complete bytes
    filed_in before sheet bytes h = rw (still_kept before).its.kind_is at h

    pub takes_sheets : TakesSheets kind lent c
    takes_sheets =
        record {
          starts_empty = rw made_so (new_count l c (usable_of kind) fits.1);
          keeps_kind = λ before. (still_kept before).its.kind_is;
          keeps_capacity = λ before. (still_kept before).holds_c;
          sheet_decides = λ before sheet room. (let is = (still_kept before).its in rw is.kind_is (filing_room is.is sheet (λ e. omega (arith, (still_kept before).holds_c)) ∙ ap (λ k. response_as k sheet) (sheets_of kind)));
          counts_one = λ before sheet bytes filed_so.
              let book = filed_in_new kind lent c before in
              let so = filed_in before sheet bytes filed_so in
              rw ((still_kept before).its.kind_is, so) (raised l book sheet (bytes_to sheet) (complete_filing book sheet so).0);
        }

  pub reads_back : ReadsBack kind
  reads_back lent c made_so before sheet bytes filed_so later =
      let book = filed_in_new kind lent c before in
      let is = (still_kept lent c made_so before).its in
      let so = filed_in lent c made_so before sheet bytes filed_so in
      let new = complete_filing book sheet so in
      let there : Holds (count l book) sheet (filed_either book sheet) = rw (is.kind_is, so) (entry_new book sheet new.0 is) in
      let still = kept (Holds (count l book) sheet) (λ b h. h.its.kind_is) (λ b s h r. entry_kept b s r (count l book) sheet h) later (filed_either book sheet) there in
      let read = reads (count l book) sheet (filed_all (filed_either book sheet) later) (new.1 ∙ ap complete (sym new.2)) still in
      rw (← new.2, still.its.kind_is) (read, read, still.sheet_there, still.answer_there)
