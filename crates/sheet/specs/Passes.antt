-- The thickness: the first pass and, under goal 6, the second. 01, "Ladder and figures", and 02, N5.
-- Assumes nothing.
use Rattle.std.specs.Prelude.{ℕ, ◌*◌, cond, Bool, true, false, ◌&&◌, ltb, Option, Some, None}
use Rattle.fractions.specs.Fraction.{◌over◌}
use Rattle.fractions.specs.Rounding.{floor}
use Rattle.lengths.specs.Ladder.{rungs, thickness_at}
use Rattle.requirement.specs.declared.Goal.{Goal}
use Rattle.requirement.specs.declared.Goal.TheVariants.{Loss}
use Rattle.provision.specs.Provided.{provided}
use Rattle.verdict.specs.declared.Verdict.{Verdict}
use Rattle.verdict.specs.declared.Verdict.TheVariants.{Sufficient, Insufficient, Undecided}
use Rattle.verdict.specs.Verdict.{is_sufficient}
use Rattle.answer.specs.declared.Pass.{Pass}
use Rattle.answer.specs.declared.Pass.TheVariants.{First, Second}
use Rattle.limits.specs.Limits.{loss_limit}
use Rattle.sheet.specs.declared.fields.Sheet.{Sheet}
use Rattle.sheet.specs.Sheet.{goal_of}
use Rattle.sheet.specs.Search.{verdicts_by, first_by}
use Rattle.sheet.specs.Checks.{loss_check}

-- does a search by this goal give a thickness? "The first rung that doesn't miss is the thickness if it meets."
abbrev pub succeeds : Sheet → Goal → Bool
succeeds s goal = let r = first_by s goal in ltb r rungs && is_sufficient (verdicts_by s goal r)

-- the loss check of the first pass's rung
abbrev pub first_check : Sheet → Option Verdict
first_check s = loss_check s (provided s.line (thickness_at (first_by s (goal_of s))))

-- the loss check between the passes: there is one under goal 6, where the first pass gives a thickness and a limit is printed
unfoldable pub check_between : Sheet → Option Verdict
check_between s = cond (s.respects_limit && succeeds s (goal_of s)) (first_check s) None

-- "If the loss check says over, the rung is found again"; otherwise the first pass decides. After a check that is too close the sheet gets
-- 18; First stands there only so that there is a value.
abbrev pub pass_after : Option Verdict → Pass
pass_after (Some Sufficient) = First
pass_after (Some Insufficient) = Second
pass_after (Some Undecided) = First
pass_after None = First

-- "If the check says too close, the sheet gets 18."
abbrev pub too_close : Option Verdict → Bool
too_close (Some Sufficient) = false
too_close (Some Insufficient) = false
too_close (Some Undecided) = true
too_close None = false

-- "90 per cent of the limit in tenths, rounded down"
abbrev pub second_aim : Sheet → ℕ
second_aim s = floor ((90 * loss_limit s.service s.temperature) over 100)

-- what a pass searches by: the first by the sheet's own goal; in the second "the rung is found again by the loss method"
abbrev pub goal_in : Sheet → Pass → Goal
goal_in s First = goal_of s
goal_in s Second = Loss (second_aim s)

-- the pass that decides, and the goal that it searches by
abbrev pub deciding_pass : Sheet → Pass
deciding_pass s = pass_after (check_between s)

abbrev pub deciding_goal : Sheet → Goal
deciding_goal s = goal_in s (deciding_pass s)

-- the verdict on the rung with index r, against the goal that decides
abbrev pub verdicts : Sheet → ℕ → Verdict
verdicts s = verdicts_by s (deciding_goal s)

-- "The first rung that doesn't miss is the thickness if it meets.": the index of that rung
abbrev pub chosen : Sheet → ℕ
chosen s = first_by s (deciding_goal s)
