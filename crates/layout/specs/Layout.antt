-- Where a book keeps what, for any layout. 01, "The book": "Sizes first, then two parallel arrays"; and 02, N7.
-- Assumes nothing.
use Rattle.std.specs.Prelude.{ℕ, ◌+◌, ◌*◌}
use Rattle.kinds.specs.declared.Kind.{Kind}
use Rattle.kinds.specs.declared.Kind.TheVariants.{Standard, Larger}
use Rattle.kinds.specs.Kind.{sheet_size}
use Rattle.layout.specs.declared.offsets.Layout.{Layout}

-- 01's book: "capacity c (2 bytes, 1 to 1,000), count n (2 bytes)", nothing before them, and sheets of 24 bytes
abbrev pub standard : Layout
standard = record { lead = 0; width = 2; largest = 1_000; sheets = Standard }

-- "The larger book starts with two zero bytes, then capacity and count in four bytes each, then the two arrays. Its capacity runs to
-- 100,000" (02, N7), and it has sheets of 26 bytes.
abbrev pub larger : Layout
larger = record { lead = 2; width = 4; largest = 100_000; sheets = Larger }

-- of a book for sheets of a kind
abbrev pub layout_of : Kind → Layout
layout_of Standard = standard
layout_of Larger = larger

-- "The answer: 8 bytes"
abbrev pub answer_size : ℕ
answer_size = 8

module _ (l : Layout) where
  -- where the count stands, and where the two sizes end
  abbrev pub count_offset : ℕ
  count_offset = l.lead + l.width

  abbrev pub header : ℕ
  header = count_offset + l.width

  -- "c sheet slots, c answer slots": where slot e of each array starts, the capacity being c
  abbrev pub sheet_offset : ℕ → ℕ
  sheet_offset e = header + sheet_size l.sheets * e

  abbrev pub answer_offset : ℕ → ℕ → ℕ
  answer_offset c e = header + sheet_size l.sheets * c + answer_size * e

  -- "Length 4 + 32c."; "over a lent buffer of 10 + 34c bytes" (02, N7)
  abbrev pub bytes_for : ℕ → ℕ
  bytes_for c = header + (sheet_size l.sheets + answer_size) * c
