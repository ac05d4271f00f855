-- A pass over the ladder, and what comes after the first, as the code answers them. 01, "Ladder and figures", and 02, N5.
-- Assumes nothing.
use Rattle.std.specs.Prelude.{cond, Option, Some, None, Result, Ok, Err}
use Rattle.refusals.specs.declared.Refusal.{Refusal}
use Rattle.refusals.specs.declared.Refusal.TheVariants.{NoneSufficient, TooClose}
use Rattle.requirement.specs.declared.Goal.{Goal}
use Rattle.verdict.specs.declared.Verdict.{Verdict}
use Rattle.verdict.specs.declared.choice.Rung.{Rung}
use Rattle.verdict.specs.Verdict.{is_undecided}
use Rattle.verdict.specs.Choice.{searched}
use Rattle.answer.specs.declared.Pass.{Pass}
use Rattle.sheet.specs.declared.fields.Sheet.{Sheet}
use Rattle.sheet.specs.Search.{verdicts_by}
use Rattle.sheet.specs.Passes.{pass_after, too_close}

-- "The first rung that doesn't miss is the thickness if it meets.": that rung, if there is one, or 17 or 18
abbrev pub passed : Option Rung → Result Rung Refusal
passed None = Err NoneSufficient
passed (Some first) = cond (is_undecided first.verdict) (Err TooClose) (Ok first)

-- a pass of a sheet by a goal
abbrev pub pass_by : Sheet → Goal → Result Rung Refusal
pass_by s goal = passed (searched s.line (verdicts_by s goal))

-- "If the loss check says over, the rung is found again"; "If the check says too close, the sheet gets 18.": the pass that decides by the
-- check between the passes, or 18
abbrev pub next : Option Verdict → Result Pass Refusal
next check = cond (too_close check) (Err TooClose) (Ok (pass_after check))
