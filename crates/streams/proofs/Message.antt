-- The words of a failure, and a message in four writes.
-- Assumes nothing.
use Rattle.std.proofs.Common.{refl, List, ℕ, ◌++◌, Option}
use Rattle.std.specs.Str.{IsUtf8}
use Rattle.std.specs.Io.KnownBytes.{Appends}
use Rattle.std.proofs.KnownBytes.{Appends-trans}
use Rattle.streams.specs.declared.Failure.{Failure}
use Rattle.streams.specs.declared.Failure.TheVariants.{Read, Write}
use Rattle.streams.specs.Message.{words}

-- they are text
pub words_utf8 : (f : Failure) → IsUtf8 (words f)
unfolding lib.Utf8.encode
words_utf8 Read = (words Read, (refl, refl))
words_utf8 Write = (words Write, (refl, refl))

pub in_pieces :
    (a b c d e : Option (List ℕ)) (p q r s : List ℕ) → Appends a b p → Appends b c q → Appends c d r → Appends d e s → Appends a e (p ++ q ++ r ++ s)
in_pieces a b c d e p q r s first second third fourth =
    Appends-trans a d e (p ++ q ++ r) s (Appends-trans a c d (p ++ q) r (Appends-trans a b c p q first second) third) fourth
