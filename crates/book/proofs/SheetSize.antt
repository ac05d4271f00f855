-- A sheet that is answered has the bytes of its kind.
-- Assumes nothing.
use mathlib.Core.Path.{◌≡◌}
use mathlib.Core.List.{List}
use Prim.Native.Nat.{ℕ}
use lib.ListN.{length}
use borrow.Author.Tests.{eqb-true, not-false}
use Rattle.refusals.specs.Cases.{NoneHolds}
use Rattle.refusals.specs.Response.{complete}
use Rattle.refusals.proofs.Response.{completed}
use Rattle.kinds.specs.declared.Kind.{Kind}
use Rattle.kinds.specs.Kind.{sheet_size}
use Rattle.sheet.specs.Answer.{answer_as}
use Rattle.sheet.specs.Refusals.{cases_as, response_as}

pub size_answered : (kind : Kind) (sheet : List ℕ) {bytes : List ℕ} → response_as kind sheet ≡ complete bytes → length sheet ≡ sheet_size kind
unfolding NoneHolds
size_answered kind sheet h = eqb-true _ _ (not-false _ (completed (cases_as kind sheet) (answer_as kind sheet) _ h).0.0)
