-- A number that is not outside its range.
-- Assumes nothing.
use mathlib.Core.Path.{◌≡◌}
use mathlib.Core.Bool.{false}
use Prim.Native.Nat.{ℕ, ◌≤◌}
use lib.Dec.{ltb}
use borrow.Author.Tests.{ltb-false}
use Rattle.std.proofs.lemmas.Bool.{or_parts}
use Rattle.refusals.specs.Range.{outside}

pub inside : (x least most : ℕ) → outside x least most ≡ false → (least ≤ x) × (x ≤ most)
inside x least most e =
    let ends = or_parts (ltb x least) (ltb most x) e in
    (ltb-false _ _ ends.0, ltb-false _ _ ends.1)
