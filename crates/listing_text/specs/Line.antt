-- A line of the listing. 01, "Sheets worked by hand".
-- Assumes nothing.
use Rattle.std.specs.Prelude.{ℕ, cond, List, ◌++◌, eqb, length}
use Rattle.text.specs.Text.{ascii, decimal}
use Rattle.sheet.specs.Sheet.{line_number}
use Rattle.sheet.specs.Refusals.{response_to}
use Rattle.answer_text.specs.Response.{spaced, response_text}

-- the "line number", which only a chunk of 24 bytes has: "A short last piece, 1 to 23 bytes, prints "- refused 11"."
abbrev pub line_number_text : List ℕ → List ℕ
line_number_text sheet = cond (eqb (length sheet) 24) (decimal (line_number sheet)) (ascii "-")

unfoldable pub line_of : List ℕ → List ℕ
line_of sheet = spaced (line_number_text sheet) ++ response_text (response_to sheet) ++ ascii "\n"
