-- Bytes put over bytes.
-- Assumes nothing.
use Rattle.std.specs.Prelude.{ℕ, ◌+◌, ◌≡◌, List, ◌++◌, length, take, drop}

-- the n bytes of b from an offset on
abbrev pub part : List ℕ → ℕ → ℕ → List ℕ
part b offset n = take n (drop offset b)

-- b with the bytes of v from an offset on
unfoldable pub overlay : List ℕ → ℕ → List ℕ → List ℕ
overlay b offset v = take offset b ++ v ++ drop (offset + length v) b

-- b became c: the bytes of v stand from an offset on and end before e, and the others are as they were
pub record Written (b : List ℕ) (offset : ℕ) (v c : List ℕ) (e : ℕ) : Type 0 where
  pub end : e ≡ offset + length v
  pub bytes : c ≡ overlay b offset v
