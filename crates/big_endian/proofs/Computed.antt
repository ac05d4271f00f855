-- Numbers in bytes, by computation.
-- Assumes nothing.
use mathlib.Core.Path.{◌≡◌, refl}
use mathlib.Core.List.{[], ◌∷◌}
use Rattle.big_endian.specs.Bytes.{big_endian, bytes_of}

-- 300 is 256 × 1 + 44
pub read_300 : big_endian (1 ∷ 44 ∷ []) 0 2 ≡ 300
unfolding big_endian
read_300 = refl

pub put_300 : bytes_of 2 300 ≡ (1 ∷ 44 ∷ [])
unfolding bytes_of
put_300 = refl
