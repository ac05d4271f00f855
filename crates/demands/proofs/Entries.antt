-- What filing keeps and what it adds, for any layout; and that a book is told by its first two bytes.
-- Assumes nothing.
use mathlib.Core.Path.{◌≡◌, sym, ◌∙◌}
use mathlib.Core.Logic.{◌⊎◌, inl, inr}
use mathlib.Core.Bool.{and-false}
use mathlib.Core.List.{List}
use Prim.Native.Nat.{ℕ, suc, ◌+◌, ◌*◌, ◌≤◌, ◌<◌}
use native.Mathlib.Nat.{mul-le-mul_left}
use native.Mathlib.Omega.{arith}
use lib.ListN.{length, replicate, length-replicate}
use borrow.Author.Tests.{ne_eqb, le-ltb}
use Rattle.overlay.specs.Overlay.{part, overlay}
use Rattle.overlay.proofs.Parts.{length_overlay, part_at, part_before, part_after}
use Rattle.big_endian.specs.Bytes.{big_endian, bytes_of}
use Rattle.big_endian.proofs.Numerals.{same_number, length_bytes, number_put, number_zeros}
use Rattle.kinds.specs.declared.Kind.{Kind}
use Rattle.kinds.specs.declared.Kind.TheVariants.{Standard, Larger}
use Rattle.kinds.specs.Kind.{sheet_size}
use Rattle.layout.specs.declared.offsets.Layout.{Layout}
use Rattle.layout.specs.declared.examination.Sizes.{Sizes}
use Rattle.layout.specs.Layout.{answer_size, count_offset, sheet_offset, answer_offset, bytes_for, standard, larger, layout_of}
use Rattle.layout.specs.OwnKind.{own_kind}
use Rattle.layout.specs.Sizes.{capacity, count}
use Rattle.layout.specs.Usable.{Usable}
use Rattle.layout.specs.SoundBook.{SoundBook}
use Rattle.layout.proofs.BothKinds.{usable_of}
use Rattle.book.specs.Book.{stored_sheet, stored_answer, new_book, with_entry}

-- the sizes that a book states, and a book that is sound by them
abbrev pub stated : Layout → List ℕ → Sizes
stated l b = record { capacity = capacity l b; count = count l b }

abbrev pub Sound : Layout → List ℕ → Type 0
Sound l b = SoundBook l b (stated l b)

-- a new book
module _ (l : Layout) (c : ℕ) (usable : Usable l) (most : c ≤ l.largest) where
  abbrev zeros : List ℕ
  zeros = replicate (bytes_for l c) 0

  abbrev stated_capacity : List ℕ
  stated_capacity = bytes_of l.width c

  size : length zeros ≡ bytes_for l c
  size = length-replicate (bytes_for l c) 0

  width : length stated_capacity ≡ l.width
  width = length_bytes l.width c

  pub new_capacity : capacity l (new_book l c) ≡ c
  unfolding new_book
  new_capacity = number_put zeros l.lead l.width c (omega (arith, size)) (omega (arith, usable.held))

  pub new_count : count l (new_book l c) ≡ 0
  unfolding new_book
  new_count =
      same_number (new_book l c) zeros (count_offset l) (count_offset l) l.width
      (part_after zeros l.lead stated_capacity (count_offset l) l.width (omega (arith, width)) (omega (arith, size)))
      ∙ number_zeros (bytes_for l c) (count_offset l) l.width (omega arith)

  new_length : length (new_book l c) ≡ bytes_for l c
  unfolding new_book
  new_length = length_overlay zeros l.lead stated_capacity (omega (arith, size, width)) ∙ size

  pub new_sound : 1 ≤ c → Sound l (new_book l c)
  new_sound some =
      rw (new_capacity, new_count)
      (record { usable = usable; capacity_is = sym new_capacity; count_is = sym new_count; some = some; most = most; size = new_length; counted = omega arith })

-- the two bytes that tell the kind stand before the count, and a new book is told by them
pub before_count : (kind : Kind) → 2 ≤ count_offset (layout_of kind)
before_count Standard = omega arith
before_count Larger = omega arith

new_start : (c : ℕ) → big_endian (new_book larger c) 0 2 ≡ 0
unfolding new_book
new_start c =
    let zeros : List ℕ = replicate (bytes_for larger c) 0 in
    same_number (new_book larger c) zeros 0 0 2
    (part_before zeros 2 (bytes_of 4 c) 0 2 (omega arith) (omega (arith, length-replicate {A = ℕ} (bytes_for larger c) 0)))
    ∙ number_zeros (bytes_for larger c) 0 2 (omega arith)

pub new_kind : (kind : Kind) (c : ℕ) → 1 ≤ c → c ≤ (layout_of kind).largest → own_kind (new_book (layout_of kind) c) ≡ kind
unfolding own_kind
new_kind Standard c some most = rw (new_capacity standard c (usable_of Standard) most, ne_eqb c 0 (λ e. omega arith), and-false)
new_kind Larger c some most = rw (new_start c, new_length larger c (usable_of Larger) most, le-ltb (bytes_for larger c) 2 (omega arith))

-- a part that lies apart from bytes put over others is as it was
apart :
    (b : List ℕ) (offset : ℕ) (v : List ℕ) (from size : ℕ) {width : ℕ} → length v ≡ width → offset ≤ length b →
    (from + size ≤ offset) ⊎ (offset + width ≤ from) → part (overlay b offset v) from size ≡ part b from size
apart b offset v from size is within (inl before) = part_before b offset v from size before within
apart b offset v from size is within (inr after) = part_after b offset v from size (omega arith) within

-- a sound book with room for a sheet and an answer of its sizes
pub record Room (l : Layout) (b sheet bytes : List ℕ) : Type 0 where
  pub is : Sound l b
  pub free : count l b < capacity l b
  pub slot : length sheet ≡ sheet_size l.sheets
  pub eight : length bytes ≡ answer_size

module _ (l : Layout) (b sheet bytes : List ℕ) where
  abbrev n : ℕ
  n = count l b

  abbrev c : ℕ
  c = capacity l b

  -- the book with the sheet, with its answer too, and with the count raised
  abbrev b₁ : List ℕ
  b₁ = overlay b (sheet_offset l n) sheet

  abbrev b₂ : List ℕ
  b₂ = overlay b₁ (answer_offset l c n) bytes

  abbrev b₃ : List ℕ
  b₃ = with_entry l b sheet bytes

  -- their lengths, and the ends of the slots
  record Lengths : Type 0 where
    slots : sheet_size l.sheets * suc n ≤ sheet_size l.sheets * c
    number : length (bytes_of l.width (n + 1)) ≡ l.width
    first : length b₁ ≡ length b
    second : length b₂ ≡ length b
    third : length b₃ ≡ length b

  module _ (r : Room l b sheet bytes) where
    lengths : Lengths
    lengths =
        let slots : sheet_size l.sheets * suc n ≤ sheet_size l.sheets * c = mul-le-mul_left (sheet_size l.sheets) r.free in
        let number = length_bytes l.width (n + 1) in
        let first = length_overlay b (sheet_offset l n) sheet (omega arith) in
        let second = length_overlay b₁ (answer_offset l c n) bytes (omega arith) ∙ first in
        let third = length_overlay b₂ (count_offset l) (bytes_of l.width (n + 1)) (omega arith) ∙ second in
        record { slots = slots; number = number; first = first; second = second; third = third }

    -- a part apart from the count, and one apart from both new slots too
    beside : (from size : ℕ) → (from + size ≤ count_offset l) ⊎ (count_offset l + l.width ≤ from) → part b₃ from size ≡ part b₂ from size
    beside from size = apart b₂ (count_offset l) (bytes_of l.width (n + 1)) from size lengths.number (omega (arith, lengths))

    untouched :
        (from size : ℕ) → (from + size ≤ sheet_offset l n) ⊎ (sheet_offset l n + sheet_size l.sheets ≤ from) →
        (from + size ≤ answer_offset l c n) ⊎ (answer_offset l c n + answer_size ≤ from) →
        (from + size ≤ count_offset l) ⊎ (count_offset l + l.width ≤ from) → part b₃ from size ≡ part b from size
    untouched from size sheets answers counts =
        beside from size counts
        ∙ apart b₁ (answer_offset l c n) bytes from size r.eight (omega (arith, lengths)) answers
        ∙ apart b (sheet_offset l n) sheet from size r.slot (omega (arith, lengths)) sheets

    pub same_capacity : capacity l b₃ ≡ c
    same_capacity = same_number b₃ b l.lead l.lead l.width (untouched l.lead l.width (inl (omega arith)) (inl (omega arith)) (inl (omega arith)))

    pub same_kind : 2 ≤ count_offset l → own_kind b₃ ≡ own_kind b
    unfolding own_kind
    same_kind behind = rw (lengths.third, same_number b₃ b 0 0 2 (untouched 0 2 (inl (omega arith)) (inl (omega arith)) (inl behind)))

    pub raised : count l b₃ ≡ n + 1
    raised = number_put b₂ (count_offset l) l.width (n + 1) (omega (arith, lengths)) (omega (arith, r.is.usable.held))

    pub still_sound : Sound l b₃
    still_sound =
        rw (same_capacity, raised)
        (record { usable = r.is.usable; capacity_is = sym same_capacity; count_is = sym raised; some = r.is.some; most = r.is.most; size = lengths.third ∙ r.is.size; counted = omega arith })

    -- the new entry
    pub new_sheet : stored_sheet l b₃ n ≡ sheet
    new_sheet =
        beside (sheet_offset l n) (sheet_size l.sheets) (inr (omega arith))
        ∙ apart b₁ (answer_offset l c n) bytes (sheet_offset l n) (sheet_size l.sheets) r.eight (omega (arith, lengths)) (inl (omega (arith, lengths)))
        ∙ (rw r.slot at (part_at b (sheet_offset l n) sheet (omega (arith, lengths))))

    pub new_answer : stored_answer l b₃ n ≡ bytes
    new_answer =
        rw same_capacity
        (beside (answer_offset l c n) answer_size (inr (omega arith)) ∙ (rw r.eight at (part_at b₁ (answer_offset l c n) bytes (omega (arith, lengths)))))

    -- an entry that was there
    module _ (e : ℕ) (there : e < n) where
      earlier : sheet_size l.sheets * suc e ≤ sheet_size l.sheets * n
      earlier = mul-le-mul_left (sheet_size l.sheets) there

      pub same_sheet : stored_sheet l b₃ e ≡ stored_sheet l b e
      same_sheet = untouched (sheet_offset l e) (sheet_size l.sheets) (inl (omega (arith, earlier))) (inl (omega (arith, earlier, lengths))) (inr (omega arith))

      pub same_answer : stored_answer l b₃ e ≡ stored_answer l b e
      same_answer = rw same_capacity (untouched (answer_offset l c e) answer_size (inr (omega (arith, lengths))) (inl (omega arith)) (inr (omega arith)))
