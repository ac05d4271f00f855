-- Numbers in bytes. 01, "What the product does": "All files are big-endian."
-- Assumes nothing.
use Rattle.std.specs.Prelude.{ℕ, zero, suc, ◌+◌, ◌*◌, ◌/◌, ◌%◌, ◌^◌, List, [], ◌∷◌, get_or}

-- the number in the n bytes from an offset on, "big-endian"
unfoldable pub big_endian : List ℕ → ℕ → ℕ → ℕ
big_endian b offset zero = 0
big_endian b offset (suc n) = 256 * big_endian b offset n + get_or b (offset + n) 0

-- n bytes that hold x
unfoldable pub bytes_of : ℕ → ℕ → List ℕ
bytes_of zero x = []
bytes_of (suc n) x = (x / 256 ^ n % 256) ∷ bytes_of n x
