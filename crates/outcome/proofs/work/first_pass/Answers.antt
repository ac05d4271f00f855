-- The verdicts of the search are those by the sheet's own goal.
use Rattle.std.proofs.Common.{ℕ, sym, ap, ◌∙◌}
use Rattle.verdict.specs.declared.Verdict.{Verdict}
use Rattle.verdict.specs.Choice.{searched}
use Rattle.sheet.proofs.Criteria.{with_jacket, same_at_each}
use Rattle.outcome.specs.Pass.{passed}
use Rattle.outcome.proofs.work.first_pass.Goals as goal

pub returns-in-Some : goal.returns-in-Some
returns-in-Some c =
    let s = c.args.sheet.sheet in
    let known = c.in-Some.ensures in
    (rw (c.search.ensures, known.terms.0, known.terms.1, known.terms.2, c.args.sheet.line_is, c.args.sheet.difference_is) at c.meeting.ensures)
    ∙ ap (λ (v : ℕ → Verdict). passed (searched s.line v)) (sym (with_jacket s s.goal (sym known.counted)))

pub returns-in-None : goal.returns-in-None
returns-in-None c =
    let s = c.args.sheet.sheet in
    (rw (c.search-in-None.ensures, c.required.ensures, c.goal.ensures, c.requires, c.args.sheet.line_is, c.args.sheet.difference_is) at c.meeting-in-None.ensures)
    ∙ ap (λ (v : ℕ → Verdict). passed (searched s.line v)) (sym (same_at_each s s.goal (sym c.in-None.ensures.counted)))
