-- The bytes that a text writes, two digits at a time.
-- Assumes nothing.
use Rattle.std.proofs.Common.{◌≡◌, ℕ, ◌%◌, ◌<◌, ◌≤◌, Bool, true, false, cond, List, [], ◌∷◌, ◌++◌, Option, Some, None, length, get_or, leb, refl, arith}
use Rattle.std.specs.Option.{option_and_then}
use borrow.Author.Tests.{le-leb, lt-leb}
use Rattle.std.proofs.lemmas.Grind.{common_steps}
use Rattle.hexadecimal.specs.Hex.{digit_of, byte_of, pairs, bytes_of}

nothing : (next : ℕ → Option (List ℕ)) (o : Option ℕ) → ((b : ℕ) → next b ≡ None) → option_and_then next o ≡ None
nothing next None none = refl
nothing next (Some b) none = none b

-- a digit that is left over
odd : (bytes text : List ℕ) → length text % 2 ≡ 1 → pairs bytes text ≡ None
unfolding pairs
odd bytes [] one = absurd (omega arith)
odd bytes (digit ∷ []) one = refl
odd bytes (high ∷ low ∷ rest) one = nothing (λ b. pairs (bytes ++ b ∷ []) rest) (byte_of (digit_of high) (digit_of low)) (λ b. odd (bytes ++ b ∷ []) rest (omega arith))

pub bytes_of-short : (text : List ℕ) → length text ≤ 128 → bytes_of text ≡ pairs [] text
unfolding bytes_of
bytes_of-short text short = simp (bytes_of, le-leb _ _ short)

pub bytes_of-long : (text : List ℕ) → 128 < length text → bytes_of text ≡ None
unfolding bytes_of
bytes_of-long text long = simp (bytes_of, lt-leb _ _ long)

same : (o : Option (List ℕ)) (b : Bool) → cond b o o ≡ o
same o true = refl
same o false = refl

pub bytes_of-odd : (text : List ℕ) → length text % 2 ≡ 1 → bytes_of text ≡ None
unfolding bytes_of
bytes_of-odd text one = rw (odd [] text one) (same None (leb (length text) 128))

pub pairs-end : (bytes text : List ℕ) → length text ≡ 0 → pairs bytes text ≡ Some bytes
unfolding pairs
pairs-end bytes [] none = refl
pairs-end bytes (x ∷ rest) none = absurd (omega arith)

-- the next two digits
pub pairs-step : (bytes digits rest : List ℕ) → length digits ≡ 2 →
    pairs bytes (digits ++ rest) ≡ option_and_then (λ b. pairs (bytes ++ b ∷ []) rest) (byte_of (digit_of (get_or digits 0 0)) (digit_of (get_or digits 1 0)))
unfolding pairs
pairs-step bytes [] rest two = absurd (omega arith)
pairs-step bytes (high ∷ []) rest two = absurd (omega arith)
pairs-step bytes (high ∷ low ∷ []) rest two = refl
pairs-step bytes (high ∷ low ∷ x ∷ more) rest two = absurd (omega arith)

-- what a search takes for the bytes of a text
pub ruleset laws = (common_steps, bytes_of-odd, bytes_of-long, bytes_of-short, pairs-end, pairs-step)
