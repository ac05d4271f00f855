-- The book's refusals, refusal 35, and the entry.
use Rattle.std.proofs.Common.{◌≡◌, Bool, true, false, not, [], ◌∷◌, ◌++◌, refl, sym, ◌∙◌, rules}
use Rattle.std.proofs.lemmas.Result.{err_from_is_err_and}
use Rattle.refusals.specs.Cases.{case}
use Rattle.refusals.specs.Response.{respond}
use Rattle.refusals.proofs.Response.{in_front}
use Rattle.layout.specs.Refusals.{book_cases}
use Rattle.layout.specs.SoundBook.{SoundBook}
use Rattle.book.specs.Refusals.{reading}
use Rattle.book.proofs.Responses.{reading_below}
use Rattle.reading.proofs.entry.entry_in.Goals.{After-is_answer-right}
use Rattle.reading.proofs.entry.entry_in.Goals as goal

-- below the count case 35 decides
told :
    (c : After-is_answer-right) (right : Bool) → right ≡ c.is_answer-right.result →
    respond (case 35 (not right) ∷ []) (c.slot-sheet.result.now ++ c.slot-answer.result.now) ≡ reading c.args.layout.plain c.args.bytes.now c.args.number
told c right is =
    let same = c.in_ok-sizes.ensures.same in
    let sound : SoundBook c.args.layout.plain c.args.bytes.now c.in_ok-sizes.field-0.sizes = rw (← same.0, ← same.1) c.in_ok-sizes.field-0.sound in
    let sheet_there = rw (c.sheet_offset-sheet_offset.ensures, c.sheet_size.ensures) at c.slot-sheet.ensures.0 in
    let answer_there = rw (c.answer_offset-answer_offset.ensures, sound.capacity_is) at c.slot-answer.ensures.0 in
    sym (reading_below sound c.args.number right c.if-sizes-number.false sheet_there answer_there (is ∙ c.is_answer-right.ensures))

pub returns-in_err-sizes-clause-response : goal.returns-in_err-sizes-clause-response
returns-in_err-sizes-clause-response c =
    let p = err_from_is_err_and c.from_residual.result c.from_residual.ensures.1 in
    rw (p.1, p.2, in_front (book_cases c.args.layout.plain c.args.bytes.now) _ _ _ _ (sym c.in_err-sizes.ensures.response)) refl

pub returns-then-right-clause-response : goal.returns-then-right-clause-response
unfolding respond
returns-then-right-clause-response c = told (goal.at.returns-then-right-clause-response c).After-is_answer-right true (search rules)

pub returns-else-right-clause-response : goal.returns-else-right-clause-response
unfolding respond
returns-else-right-clause-response c = told (goal.at.returns-else-right-clause-response c).After-is_answer-right false (search rules)
