-- The ladder's rungs, by computation.
-- Assumes nothing.
use mathlib.Core.Path.{refl}
use native.Mathlib.Omega.{arith}
use Rattle.worked.specs.Ladder.{LadderRungs}

pub ladder_rungs : LadderRungs
ladder_rungs = record { first = refl; next = λ r lt. omega arith; last = λ r le. omega arith; count = refl }
