-- Bytes written in hexadecimal, two digits a byte.
-- Assumes nothing.
use Rattle.std.specs.Prelude.{ℕ, ◌+◌, ◌*◌, ◌%◌, cond, List, [], ◌∷◌, ◌++◌, Option, None, Some, ltb, leb, eqb, length}
use Rattle.std.specs.List.{position_or_len}
use Rattle.std.specs.Option.{option_and_then}
use Rattle.text.specs.Text.{ascii}

-- the sixteen digits in lower case, and again in upper case
abbrev pub digits : List ℕ
digits = ascii "0123456789abcdef0123456789ABCDEF"

-- the index of the first b in a list, the list's length where there is none
abbrev pub index_of : ℕ → List ℕ → ℕ
index_of b xs = position_or_len (λ x. eqb x b) xs

-- the value of a digit is its index among the sixteen of its case; any other byte has none
unfoldable pub digit_of : ℕ → Option ℕ
digit_of b = cond (ltb (index_of b digits) 32) (Some (index_of b digits % 16)) None

-- the byte of a high digit and a low one
unfoldable pub byte_of : Option ℕ → Option ℕ → Option ℕ
byte_of None low = None
byte_of (Some high) None = None
byte_of (Some high) (Some low) = Some (16 * high + low)

-- the bytes so far, and then those that the pairs of digits of a text write; none where one of a pair is no digit, or a digit is left over
unfoldable pub pairs : List ℕ → List ℕ → Option (List ℕ)
pairs bytes [] = Some bytes
pairs bytes (high ∷ []) = None
pairs bytes (high ∷ low ∷ rest) = option_and_then (λ b. pairs (bytes ++ b ∷ []) rest) (byte_of (digit_of high) (digit_of low))

-- the bytes that a text writes, 64 at the most
unfoldable pub bytes_of : List ℕ → Option (List ℕ)
bytes_of text = cond (leb (length text) 128) (pairs [] text) None
