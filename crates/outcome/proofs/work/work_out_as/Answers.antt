-- Case 11, and then those of the decoded sheet.
use Rattle.std.proofs.Common.{length, sym, ap, ◌∙◌, arith}
use borrow.Author.Tests.{eq-eqb}
use Rattle.std.proofs.lemmas.Result.{err_from_is_err_and}
use Rattle.refusals.specs.Cases.{NoneHolds, FirstHolds}
use Rattle.refusals.specs.Numbers.{number_of}
use Rattle.refusals.specs.Response.{respond}
use Rattle.refusals.proofs.Response.{later, first_counts}
use Rattle.kinds.specs.Kind.{sheet_size}
use Rattle.answer.specs.Answer.{encoded}
use Rattle.sheet.specs.declared.fields.Sheet.{Sheet}
use Rattle.sheet.specs.Sheet.{decoded_as}
use Rattle.sheet.specs.Passes.{chosen}
use Rattle.sheet.specs.Answer.{answer_of, answer_as}
use Rattle.sheet.specs.Refusals.{value_cases, ladder_cases}
use Rattle.outcome.proofs.work.work_out_as.Goals as goal

pub returns-in_err-sheet : goal.returns-in_err-sheet
unfolding respond
returns-in_err-sheet c =
    let p = err_from_is_err_and c.from_residual.result c.from_residual.ensures.1 in
    let s = decoded_as c.args.kind c.args.bytes.now in
    let first : FirstHolds (number_of c.in_err-sheet.field-0.0) (value_cases s) = rw (← c.decode.ensures.fields) c.in_err-sheet.ensures.refused in
    rw (p.1, p.2, eq-eqb (length c.args.bytes.now) (sheet_size c.args.kind) (omega arith)) (sym (first_counts _ (value_cases s) (ladder_cases s) (answer_as c.args.kind c.args.bytes.now) first))

pub returns : goal.returns
unfolding respond
returns c =
    let s = decoded_as c.args.kind c.args.bytes.now in
    let admitted = c.in_ok-sheet.ensures.admitted in
    let none : NoneHolds (value_cases s) = rw (← c.decode.ensures.fields) admitted.1 in
    rw (eq-eqb (length c.args.bytes.now) (sheet_size c.args.kind) (omega arith), later (value_cases s) (ladder_cases s) (answer_as c.args.kind c.args.bytes.now) none)
    (c.search_ladder.ensures ∙ ap (λ (s : Sheet). respond (ladder_cases s) (encoded (answer_of s (chosen s)))) (admitted.0 ∙ c.decode.ensures.fields))
