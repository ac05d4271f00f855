-- The two kinds of sheets, and where each keeps what. 01, "The sheet: 24 bytes", and 02, N7.
-- Assumes nothing.
use Rattle.std.specs.Prelude.{ℕ, ◌+◌}
use Rattle.kinds.specs.declared.Kind.{Kind}
use Rattle.kinds.specs.declared.Kind.TheVariants.{Standard, Larger}

-- by how many bytes a line number is longer than the two of 01's table: "The sheet's line number grows to four bytes"
abbrev pub longer : Kind → ℕ
longer Standard = 0
longer Larger = 2

-- "The sheet: 24 bytes"; "the sheet" grows "to 26"
abbrev pub sheet_size : Kind → ℕ
sheet_size kind = 24 + longer kind

-- where a field stands that the table has behind the line number, at this offset
abbrev pub moved : Kind → ℕ → ℕ
moved kind offset = offset + longer kind
