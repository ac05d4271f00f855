-- The listing of sheets one after another. 01, "Sheets worked by hand".
-- Assumes nothing.
use Rattle.std.specs.Prelude.{ℕ, ◌+◌, ◌*◌, ◌/◌, List, ◌++◌, length, take, drop}
use Rattle.text.specs.Text.{ascii, concatenated}
use Rattle.listing_text.specs.Line.{line_of}

-- the chunks of 24 bytes, of which the last may be shorter: how many there are, and the one with index k
abbrev pub chunks : List ℕ → ℕ
chunks input = (length input + 23) / 24

abbrev pub chunk : List ℕ → ℕ → List ℕ
chunk input k = take 24 (drop (24 * k) input)

-- "The listing program reads sheets one after another from standard input and prints one line each": the line of chunk k, and all lines
abbrev pub line_at : List ℕ → ℕ → List ℕ
line_at input k = line_of (chunk input k)

abbrev pub lines_of : List ℕ → List ℕ
lines_of input = concatenated (line_at input) (chunks input)

-- "The header always stands first, also for empty input.": "line shape mm loss surface upto"
abbrev pub header : List ℕ
header = ascii "line shape mm loss surface upto\n"

abbrev pub listing : List ℕ → List ℕ
listing input = header ++ lines_of input
