-- The loss check is over, so the second pass decides, and a limit is printed.
use borrow.Author.Tests.{ne_eqb}
use Rattle.std.proofs.Common.{◌≡◌, sym, ◌∙◌}
use Rattle.std.proofs.lemmas.Result.{err_from_is_err_and}
use Rattle.answer.specs.declared.Pass.TheVariants.{Second}
use Rattle.sheet.specs.Passes.{goal_in}
use Rattle.sheet.proofs.Passes.{between, Printed, printed_for, second_aim_some}
use Rattle.outcome.specs.Pass.{pass_by}
use Rattle.outcome.proofs.Passes.{refused_by, given}
use Rattle.outcome.proofs.work.second_pass.Goals.{Start, After-meeting}
use Rattle.outcome.proofs.work.second_pass.Goals as goal

printed : (c : Start) → Printed c.args.sheet.sheet
printed c = let s = c.args.sheet.sheet in printed_for s _ _ (between s _ c.requires.1).says

by_second_goal : (c : After-meeting) → let s = c.args.sheet.sheet in pass_by s (goal_in s Second) ≡ c.meeting.result
by_second_goal c = sym (rw (c.search_apart.ensures, c.requires.0, c.required-need.ensures, c.second_goal.ensures, c.args.sheet.line_is, c.args.sheet.difference_is) at c.meeting.ensures)

pub second_goal-requires : goal.second_goal-requires
second_goal-requires c = rw (c.args.sheet.limit_is, ne_eqb _ 0 (printed (goal.at.second_goal-requires c).Start))

pub required-need-requires : goal.required-need-requires
required-need-requires c = rw c.second_goal.ensures (second_aim_some c.args.sheet.sheet (printed (goal.at.required-need-requires c).Start))

pub returns-in_err-rung : goal.returns-in_err-rung
returns-in_err-rung c =
    let p = err_from_is_err_and c.from_residual.result c.from_residual.ensures.1 in
    let is = by_second_goal (goal.at.returns-in_err-rung c).After-meeting in
    rw (p.1, p.2) (sym (refused_by c.args.sheet.sheet Second (rw c.requires.1) (rw c.requires.1) _ _ (is ∙ c.in_err-rung.was)))

pub returns : goal.returns
returns c =
    let is = by_second_goal (goal.at.returns c).After-meeting in
    let g = given c.args.sheet.sheet Second (rw c.requires.1) (rw c.requires.1) c.in_ok-rung.rung (is ∙ c.in_ok-rung.was) in
    rw (c.answer_of.ensures, g.found.is) (sym (g.response _))
