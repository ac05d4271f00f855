-- The sizes that a book states. 01, "The book": "capacity c (2 bytes, 1 to 1,000), count n (2 bytes)"; "capacity and
-- count in four bytes each" (02, N7).
-- Assumes nothing.
use Rattle.std.specs.Prelude.{ℕ, List}
use Rattle.big_endian.specs.Bytes.{big_endian}
use Rattle.layout.specs.declared.offsets.Layout.{Layout}
use Rattle.layout.specs.Layout.{count_offset}

module _ (l : Layout) where
  -- c and n
  abbrev pub capacity : List ℕ → ℕ
  capacity b = big_endian b l.lead l.width

  abbrev pub count : List ℕ → ℕ
  count b = big_endian b (count_offset l) l.width
