-- The first pass, and what its loss check says comes next.
use Rattle.std.proofs.Common.{◌≡◌, refl, sym, ◌∙◌, ap, Ok}
use Rattle.std.proofs.lemmas.Result.{err_from_is_err_and}
use Rattle.answer.specs.declared.Pass.TheVariants.{First}
use Rattle.sheet.specs.Sheet.{goal_of}
use Rattle.sheet.specs.Passes.{check_between, deciding_pass}
use Rattle.sheet.proofs.Passes.{after_over}
use Rattle.outcome.specs.Pass.{pass_by, next}
use Rattle.outcome.proofs.Passes.{next_refused, next_pass, none_checked, checked, refused_by, Given, given, closed}
use Rattle.outcome.proofs.work.search_ladder.Goals.{After-first_pass, After-next_pass, In-First}
use Rattle.outcome.proofs.work.search_ladder.Goals as goal

by_own_goal : (c : After-first_pass) → let s = c.args.sheet.sheet in pass_by s (goal_of s) ≡ c.first_pass.result
by_own_goal c = sym c.first_pass.ensures

-- the first pass found its rung, and what comes next is by the loss check between the passes
first_found : (c : After-next_pass) → pass_by c.args.sheet.sheet (goal_of c.args.sheet.sheet) ≡ Ok c.in_ok-first.first
first_found c = by_own_goal (goal.at.After-next_pass c).After-first_pass ∙ c.in_ok-first.was

after : (c : After-next_pass) → next (check_between c.args.sheet.sheet) ≡ c.next_pass.result
after c = ap next (checked c.args.sheet.sheet c.in_ok-first.first (first_found c)) ∙ rw (← c.loss_check-loss.ensures) (sym c.next_pass.ensures)

-- where that is the first pass, its rung is the chosen one
stands : (c : In-First) → let s = c.args.sheet.sheet in (deciding_pass s ≡ First) × Given s c.in_ok-first.first
stands c =
    let before = (goal.at.In-First c).After-next_pass in
    let is = next_pass _ (after before ∙ rw (← c.in-First.is) c.in_ok-next_pass.was) in
    (is.1, given c.args.sheet.sheet First is.1 is.0 c.in_ok-first.first (first_found before))

pub returns-in_err-first : goal.returns-in_err-first
returns-in_err-first c =
    let s = c.args.sheet.sheet in
    let p = err_from_is_err_and c.from_residual.result c.from_residual.ensures.1 in
    let why = c.in_err-first.field-0.0 in
    let none = by_own_goal (goal.at.returns-in_err-first c).After-first_pass ∙ c.in_err-first.was in
    rw (p.1, p.2) (sym (refused_by s First (rw (none_checked s why none)) (rw (none_checked s why none)) _ why none))

pub returns-in_err-next_pass : goal.returns-in_err-next_pass
returns-in_err-next_pass c =
    let p = err_from_is_err_and c.from_residual-in_err-next_pass.result c.from_residual-in_err-next_pass.ensures.1 in
    let before = (goal.at.returns-in_err-next_pass c).After-next_pass in
    let close = next_refused _ (after before ∙ c.in_err-next_pass.was) in
    rw (p.1, p.2, close.1) (sym (closed c.args.sheet.sheet _ c.in_ok-first.first (first_found before) close.0))

pub answer_of-requires : goal.answer_of-requires
answer_of-requires c =
    let g = stands (goal.at.answer_of-requires c).In-First in
    record { decides = sym g.0; found = (rw g.1.found.is g.1.found.on_ladder, rw g.1.found.is refl); checked = c.loss_check-loss.ensures }

pub second_pass-requires : goal.second_pass-requires
second_pass-requires c =
    (c.of-prepared.ensures, after_over _ (next_pass _ (after (goal.at.second_pass-requires c).After-next_pass ∙ rw (← c.in-Second.is) c.in_ok-next_pass.was)).1)

pub returns-in-First : goal.returns-in-First
returns-in-First c =
    let g = (stands (goal.at.returns-in-First c).In-First).1 in
    rw (c.answer_of.ensures, g.found.is) (sym (g.response _))
