-- The refusals, and the entry.
use Rattle.std.proofs.Common.{refl, ◌∙◌}
use Rattle.std.proofs.lemmas.Result.{err_from_is_err_and}
use Rattle.reading.proofs.read.Goals as goal

pub returns-in_err-stored : goal.returns-in_err-stored
returns-in_err-stored c =
    let p = err_from_is_err_and c.from_residual.result c.from_residual.ensures.1 in
    let told = rw c.of.ensures at c.in_err-stored.ensures.response in
    rw (p.1, p.2, ← told) (record { response = refl; sheet_after = refl; answer_after = refl })

pub returns : goal.returns
returns c =
    let told = rw c.of.ensures at c.in_ok-stored.ensures in
    let sheet_is = c.copy_from_slice.ensures.after in
    let answer_is = c.copy_from_slice-2.ensures.after in
    rw (← told.response) (record { response = rw (sheet_is, answer_is) refl; sheet_after = sheet_is ∙ told.stored.0; answer_after = answer_is ∙ told.stored.1 })
