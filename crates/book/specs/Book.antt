-- What a book holds, and what making and filing make of it. 01, "The book", and 02, N7.
-- Assumes nothing.
use Rattle.std.specs.Prelude.{ℕ, ◌+◌, List, replicate}
use Rattle.overlay.specs.Overlay.{part, overlay}
use Rattle.big_endian.specs.Bytes.{bytes_of}
use Rattle.kinds.specs.Kind.{sheet_size}
use Rattle.layout.specs.declared.offsets.Layout.{Layout}
use Rattle.layout.specs.Sizes.{capacity, count}
use Rattle.layout.specs.Layout.{answer_size, count_offset, sheet_offset, answer_offset, bytes_for}

module _ (l : Layout) where
  -- what stands in slot e of each array
  abbrev pub stored_sheet : List ℕ → ℕ → List ℕ
  stored_sheet b e = part b (sheet_offset l e) (sheet_size l.sheets)

  abbrev pub stored_answer : List ℕ → ℕ → List ℕ
  stored_answer b e = part b (answer_offset l (capacity l b) e) answer_size

  -- "A new book is all zero but for c."
  unfoldable pub new_book : ℕ → List ℕ
  new_book c = overlay (replicate (bytes_for l c) 0) l.lead (bytes_of l.width c)

  -- "Filing writes slot n in both arrays"
  abbrev pub with_slots : List ℕ → List ℕ → List ℕ → List ℕ
  with_slots b sheet bytes = overlay (overlay b (sheet_offset l (count l b)) sheet) (answer_offset l (capacity l b) (count l b)) bytes

  -- "raises n by one"
  abbrev pub with_count : List ℕ → ℕ → List ℕ
  with_count b n = overlay b (count_offset l) (bytes_of l.width n)

  -- "and changes nothing else"
  abbrev pub with_entry : List ℕ → List ℕ → List ℕ → List ℕ
  with_entry b sheet bytes = with_count (with_slots b sheet bytes) (count l b + 1)
