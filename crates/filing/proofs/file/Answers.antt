-- The book's refusals, refusal 34, the refusals of the sheet, and the entry.
use Rattle.std.proofs.Common.{◌≡◌, ℕ, List, refl, sym, rules, ap, ◌∙◌}
use Rattle.std.proofs.lemmas.Result.{err_from_is_err_and}
use borrow.Author.Tests.{eq-eqb}
use Rattle.refusals.specs.Response.{respond}
use Rattle.refusals.proofs.Response.{in_front, completed}
use Rattle.layout.specs.declared.book.Book.{Book}
use Rattle.layout.specs.declared.offsets.BookLayout.{BookLayout}
use Rattle.layout.specs.declared.offsets.Layout.{Layout}
use Rattle.layout.specs.OwnKind.{own_layout}
use Rattle.layout.specs.Refusals.{book_cases}
use Rattle.layout.specs.SoundBook.{SoundBook}
use Rattle.sheet.specs.Answer.{answer_as}
use Rattle.sheet.specs.Refusals.{cases_as, response_as}
use Rattle.book.proofs.Responses.{filing_sound, filing_room}
use Rattle.book.proofs.SheetSize.{size_answered}
use Rattle.filing.proofs.file.Goals as goal

-- a book that was examined in a layout is sound in it
is_sound : {l : Layout} {layout : BookLayout} {bytes : List ℕ} (b : Book) → layout.plain ≡ l → (b.layout ≡ layout) × (b.bytes.now ≡ bytes) → SoundBook l bytes b.sizes
is_sound b its same = rw (← its, ← same.0, ← same.1) b.sound

pub returns-in_err-sizes : goal.returns-in_err-sizes
returns-in_err-sizes c =
    let b = c.args.book.now in
    let p = err_from_is_err_and c.from_residual.result c.from_residual.ensures.1 in
    let told = rw c.own-layout.ensures at c.in_err-sizes.ensures.response in
    rw (p.1, p.2, in_front (book_cases (own_layout b) b) _ _ _ _ (sym told)) (record { response = refl; book_after = refl })

pub returns-then-sizes : goal.returns-then-sizes
unfolding respond
returns-then-sizes c =
    let sound = is_sound c.in_ok-sizes.field-0 c.own-layout.ensures c.in_ok-sizes.ensures.same in
    rw (filing_sound sound c.args.sheet.now, eq-eqb _ _ c.if-sizes.true) (record { response = refl; book_after = refl })

pub returns-in_err-answer : goal.returns-in_err-answer
returns-in_err-answer c =
    let sound = is_sound c.in_ok-sizes.field-0 c.own-layout.ensures c.in_ok-sizes.ensures.same in
    let p = err_from_is_err_and c.from_residual-in_err-answer.result c.from_residual-in_err-answer.ensures.1 in
    let refused = c.in_err-answer.ensures ∙ ap (λ (l : Layout). response_as l.sheets c.args.sheet.now) c.own-layout.ensures in
    rw (p.1, p.2, filing_room sound c.args.sheet.now c.if-sizes.false, ← refused) (record { response = refl; book_after = refl })

pub enter-requires-clause-fits : goal.enter-requires-clause-fits
enter-requires-clause-fits c = (search rules, size_answered c.own-layout.result.plain.sheets c.args.sheet.now (sym c.in_ok-answer.ensures))

pub returns : goal.returns
returns c =
    let kind = (own_layout c.args.book.now).sheets in
    let sheet = c.args.sheet.now in
    let sound = is_sound c.in_ok-sizes.field-0 c.own-layout.ensures c.in_ok-sizes.ensures.same in
    let answered = c.in_ok-answer.ensures ∙ ap (λ (l : Layout). response_as l.sheets sheet) c.own-layout.ensures in
    let same = (completed (cases_as kind sheet) (answer_as kind sheet) _ (sym answered)).1 in
    rw (filing_room sound sheet c.if-sizes.false, ← answered, same) (record { response = refl; book_after = rw c.own-layout.ensures at c.enter.ensures })
