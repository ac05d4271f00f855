-- The annex as it is printed: the figures, and with them the loss limits (02, N3).
-- Assumes nothing.
use Rattle.std.specs.Prelude.{ℕ, ◌+◌, List, ◌++◌, get_or}
use Rattle.fractions.specs.declared.Bounds.{Bounds}
use Rattle.annex_tables.specs.Annex.{entries, annex_entry}
use Rattle.limits.specs.FlatTable.{flat_table}
use Rattle.text.specs.Text.{ascii, decimal_and, concatenated}

-- a whole millimetre and its two figures, separated by one space, which is byte 32; byte 10 ends a line
abbrev pub line : ℕ → Bounds → List ℕ
line mm figures = decimal_and mm 32 ++ decimal_and figures.lower 32 ++ decimal_and figures.upper 10

-- the line of entry k, which stands at 10 + k mm
abbrev pub entry_line : ℕ → List ℕ
entry_line k = line (10 + k) (annex_entry k)

-- number k of the loss limits, and the byte after it
abbrev pub limit : ℕ → ℕ → List ℕ
limit after k = decimal_and (get_or flat_table k 0) after

-- the 26 loss limits on one line, separated by one space: 25 with a space after each, the last with the end of the line
abbrev pub limits_line : List ℕ
limits_line = concatenated (limit 32) 25 ++ limit 10 25

-- a header and a line for each entry, a title and the loss limits
abbrev pub page : List ℕ
page = ascii "mm under over\n" ++ concatenated entry_line entries ++ ascii "limits\n" ++ limits_line
