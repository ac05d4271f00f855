-- Numbers in bytes: each is read from its own bytes alone, and read back where it was put.
-- Assumes nothing.
use mathlib.Core.Path.{◌≡◌, refl, sym, ap, ◌∙◌}
use mathlib.Core.List.{List}
use Prim.Native.Nat.{ℕ, zero, suc, ◌+◌, ◌*◌, ◌/◌, ◌%◌, ◌^◌, ◌≤◌, ◌<◌}
use native.Mathlib.Nat.{pow-suc, pow-le-pow_right, div-one, add-zero, add-suc, zero-add, le_refl, div-eq_of_lt, div-div-eq-div-mul, div-add-mod'}
use native.Mathlib.Numerals.{add-one}
use native.Mathlib.Omega.{arith}
use lib.ListN.{length, get_or, drop, replicate, get_or-replicate}
use lib.Seq.{get_or-take, get_or-drop, take_all}
use Rattle.overlay.specs.Overlay.{part, overlay}
use Rattle.overlay.proofs.Parts.{part_at}
use Rattle.big_endian.specs.Bytes.{big_endian, bytes_of}

-- a byte of a part
pub byte_of_part : (b : List ℕ) (offset n i : ℕ) → i < n → get_or (part b offset n) i 0 ≡ get_or b (offset + i) 0
byte_of_part b offset n i lt = rw (get_or-take n (drop offset b) i 0 lt) (get_or-drop offset b i 0)

-- a number is read from its own bytes alone
from_part : (b : List ℕ) (at n k : ℕ) → k ≤ n → big_endian b at k ≡ big_endian (part b at n) 0 k
unfolding big_endian
from_part b at n zero le = refl
from_part b at n (suc k) le =
    let byte : get_or (part b at n) (0 + k) 0 ≡ get_or b (at + k) 0 = rw zero-add (byte_of_part b at n k le) in
    rw byte (ap (λ (x : ℕ). 256 * x + get_or b (at + k) 0) (from_part b at n k (omega arith)))

pub same_number : (b c : List ℕ) (p q n : ℕ) → part b p n ≡ part c q n → big_endian b p n ≡ big_endian c q n
same_number b c p q n e = from_part b p n n (le_refl n) ∙ ap (λ (x : List ℕ). big_endian x 0 n) e ∙ sym (from_part c q n n (le_refl n))

pub length_bytes : (n x : ℕ) → length (bytes_of n x) ≡ n
unfolding bytes_of
length_bytes zero x = refl
length_bytes (suc n) x = ap suc (length_bytes n x)

-- byte k of j + 1 + k bytes
byte : (j k x : ℕ) → get_or (bytes_of (suc j + k) x) k 0 ≡ x / 256 ^ j % 256
unfolding bytes_of
byte j zero x = rw (add-zero (suc j))
byte j (suc k) x = rw (add-suc (suc j) k) (byte j k x)

-- the first k of j + k bytes
leading : (j k x : ℕ) → x < 256 ^ (j + k) → big_endian (bytes_of (j + k) x) 0 k ≡ x / 256 ^ j
unfolding big_endian
leading j zero x lt = sym (div-eq_of_lt (rw (add-zero j) at lt))
leading j (suc k) x lt =
    let next : j + suc k ≡ suc j + k = omega arith in
    let high : big_endian (bytes_of (j + suc k) x) 0 k ≡ x / 256 ^ suc j = rw next (leading (suc j) k x (rw next at lt)) in
    let low : get_or (bytes_of (j + suc k) x) (0 + k) 0 ≡ x / 256 ^ j % 256 = rw (next, zero-add k) (byte j k x) in
    let shift : x / 256 ^ suc j ≡ x / 256 ^ j / 256 = rw (pow-suc 256 j) (sym (div-div-eq-div-mul x (256 ^ j) 256)) in
    rw (high, low, shift) (omega (arith, div-add-mod' (x / 256 ^ j) 256))

-- a number that fits is the one in its bytes
pub number_bytes : (n x : ℕ) → x < 256 ^ n → big_endian (bytes_of n x) 0 n ≡ x
number_bytes n x lt = (rw (zero-add n) at (leading 0 n x (rw (zero-add n) lt))) ∙ div-one x

-- and is read where its bytes were put
pub number_put : (b : List ℕ) (at n x : ℕ) → at ≤ length b → x < 256 ^ n → big_endian (overlay b at (bytes_of n x)) at n ≡ x
number_put b at n x within lt =
    let bytes = bytes_of n x in
    let size = length_bytes n x in
    let there : part (overlay b at bytes) at n ≡ bytes = rw size at (part_at b at bytes within) in
    same_number (overlay b at bytes) bytes at 0 n (there ∙ sym (take_all n bytes (omega (arith, size)))) ∙ number_bytes n x lt

-- a number in zeros is 0
pub number_zeros : (size at n : ℕ) → at + n ≤ size → big_endian (replicate {A = ℕ} size 0) at n ≡ 0
unfolding big_endian
number_zeros size at zero within = refl
number_zeros size at (suc n) within =
    rw (number_zeros size at n (omega arith), get_or-replicate {A = ℕ} size (at + n) 0 0 (omega arith))

-- a number below a power of 256 with an exponent of at most 3
pub below_power : (i n : ℕ) → i < 4 → n < 256 ^ i → n < 16_777_216
below_power i n lt below = omega (arith, pow-le-pow_right {n = 256} (omega arith) {i = i} {j = 3} (omega arith))

-- what a search takes for numbers in bytes
pub ruleset numbers = (below_power, byte_of_part, add-one, pow-suc)
