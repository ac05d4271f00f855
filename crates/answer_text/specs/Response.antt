-- An answer or a refusal, as text. 01, "Sheets worked by hand".
-- Assumes nothing.
use Rattle.std.specs.Prelude.{ℕ, ◌-◌, ◌/◌, ◌%◌, cond, List, ◌++◌, ltb, eqb, get_or}
use Rattle.text.specs.Text.{ascii, decimal}
use Rattle.refusals.specs.Response.{Response, refused, complete}
use Rattle.temperatures.specs.declared.Temperature.{Temperature}
use Rattle.temperatures.specs.Temperature.{decoded, zero_degrees}
use Rattle.big_endian.specs.Bytes.{big_endian}

-- "Its words are cylinder, flat, within, over, close, none.", by the codes in an answer
abbrev pub shape_word : ℕ → List ℕ
shape_word code = cond (eqb code 1) (ascii "cylinder") (ascii "flat")

abbrev pub check_word : ℕ → List ℕ
check_word code = cond (eqb code 0) (ascii "within") (cond (eqb code 1) (ascii "over") (cond (eqb code 2) (ascii "close") (ascii "none")))

-- "with one decimal": of a number of tenths
abbrev pub tenths : ℕ → List ℕ
tenths n = decimal (n / 10) ++ ascii "." ++ decimal (n % 10)

-- "The bound is in °C with one decimal and a minus sign below zero."
abbrev pub degrees : Temperature → List ℕ
degrees t = cond (ltb t.0 zero_degrees) (ascii "-" ++ tenths (zero_degrees - t.0)) (tenths (t.0 - zero_degrees))

-- a word or a number, and a space after it
abbrev pub spaced : List ℕ → List ℕ
spaced text = text ++ ascii " "

-- "loss check, surface check, bound", of the eight bytes of an answer
abbrev pub checks_text : List ℕ → List ℕ
checks_text a = spaced (check_word (get_or a 4 0)) ++ spaced (check_word (get_or a 5 0)) ++ degrees (decoded (big_endian a 6 2))

-- "shape, mm, loss check, surface check, bound"
abbrev pub answer_text : List ℕ → List ℕ
answer_text a = spaced (shape_word (get_or a 1 0)) ++ spaced (decimal (big_endian a 2 2)) ++ checks_text a

-- "A refused sheet prints its line number, the word refused and the refusal number.": the last two
abbrev pub response_text : Response → List ℕ
response_text (refused n) = ascii "refused " ++ decimal n
response_text (complete a) = answer_text a
