-- Bytes that reads bring into a block, one read after the other.
-- Assumes nothing.
use Rattle.std.proofs.Common.{◌≡◌, ℕ, ◌+◌, List, ◌++◌, Option, Result, Ok, Err, IfOk, length, take, drop, sym, ap, ◌∙◌, subst, drop_at, length-take-le}
use borrow.Rule.Slice.PartMut.{take_put}
use lib.Seq.{take-append-le}
use Rattle.std.proofs.Math.Seq.{take-add}
use Rattle.std.proofs.KnownBytes.{Consumes-trans}
use Rattle.std.specs.Io.{ReadsAtMost}
use Rattle.std.specs.Io.KnownBytes.{Consumes, ReadConsumes}

-- what was read into a part stands after what stands before it
pub in_place : {E : Type 0} (a b : Option (List ℕ)) (r : Result ℕ E) (front part rest : List ℕ) (offset : ℕ) → length front ≡ offset → ReadsAtMost r part
    → ReadConsumes a b r part → IfOk r (λ n. Consumes a b (take n (drop offset (front ++ (part ++ rest)))))
in_place a b (Ok n) front part rest offset size fits read =
    subst (Consumes a b) (sym (ap (take n) (drop_at front (part ++ rest) offset size) ∙ take-append-le n part rest fits.0)) read.0
in_place a b (Err e) front part rest offset size fits read = tt

-- the first f bytes, and the n after them
pub more : (a b c : Option (List ℕ)) (old new : List ℕ) (f n : ℕ) → take f new ≡ take f old → Consumes a b (take f old) → Consumes b c (take n (drop f new)) → Consumes a c (take (f + n) new)
more a b c old new f n front first second =
    subst (Consumes a c) (sym (take-add f n new ∙ ap (λ (l : List ℕ). l ++ take n (drop f new)) front)) (Consumes-trans a b c (take f old) (take n (drop f new)) first second)

-- what a search takes for a read into a part
pub ruleset part_read = (take_put, in_place, length-take-le)
