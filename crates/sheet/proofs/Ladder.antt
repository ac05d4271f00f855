-- What the cases that try the ladder come to.
-- Assumes nothing.
use mathlib.Core.Path.{◌≡◌}
use mathlib.Core.Bool.{Bool, true, false, ◌||◌}
use mathlib.Core.List.{List}
use Prim.Native.Nat.{ℕ, ◌<◌}
use native.Mathlib.Omega.{arith}
use borrow.Author.Tests.{eq-eqb, ne_eqb}
use Rattle.lengths.specs.Ladder.{rungs}
use Rattle.refusals.specs.Response.{refused, complete, respond}
use Rattle.verdict.specs.Verdict.{is_undecided}
use Rattle.sheet.specs.declared.fields.Sheet.{Sheet}
use Rattle.sheet.specs.Passes.{check_between, too_close, verdicts, chosen}
use Rattle.sheet.specs.Refusals.{ladder_cases}

-- does 18 hold, in a pass that finds a rung?
abbrev pub open_or_close : Sheet → Bool
open_or_close s = is_undecided (verdicts s (chosen s)) || too_close (check_between s)

module _ (s : Sheet) (bytes : List ℕ) where
  pub all_insufficient : chosen s ≡ rungs → respond (ladder_cases s) bytes ≡ refused 17
  unfolding respond
  all_insufficient e = rw (eq-eqb (chosen s) rungs e)

  pub first_undecided : chosen s < rungs → open_or_close s ≡ true → respond (ladder_cases s) bytes ≡ refused 18
  unfolding respond
  first_undecided lt e = rw (ne_eqb (chosen s) rungs (λ all. omega arith), e)

  pub first_decided : chosen s < rungs → open_or_close s ≡ false → respond (ladder_cases s) bytes ≡ complete bytes
  unfolding respond
  first_decided lt e = rw (ne_eqb (chosen s) rungs (λ all. omega arith), e)
