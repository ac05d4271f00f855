-- Text as lists of bytes.
-- Assumes nothing.
use Rattle.std.specs.Prelude.{ℕ, zero, suc, ◌+◌, ◌/◌, ◌%◌, true, false, List, [], ◌∷◌, ◌++◌, ltb}
use Prim.Native.Char.{code}
use Prim.Native.String.{String}
use Prim.Native.String as Quoted

-- a text in quotes, in ASCII
abbrev pub ascii : String → List ℕ
ascii Quoted.[] = []
ascii (Quoted.◌∷◌ c s) = code c ∷ ascii s

-- the decimal digits of n in ASCII, k + 1 at the most; n + 1 are always enough
unfoldable pub decimal_up_to : ℕ → ℕ → List ℕ
decimal_up_to zero n = (48 + n) ∷ []
decimal_up_to (suc k) n = elim (ltb n 10) [ true ↦ (48 + n) ∷ [] | false ↦ decimal_up_to k (n / 10) ++ ((48 + n % 10) ∷ []) ]

unfoldable pub decimal : ℕ → List ℕ
decimal n = decimal_up_to n n

-- a number and the byte after it
abbrev pub decimal_and : ℕ → ℕ → List ℕ
decimal_and n after = decimal n ++ (after ∷ [])

-- the first n texts, one after the other
unfoldable pub concatenated : (ℕ → List ℕ) → ℕ → List ℕ
concatenated text zero = []
concatenated text (suc n) = concatenated text n ++ text n
