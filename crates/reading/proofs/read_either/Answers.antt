-- The refusals, and the entry.
use Rattle.std.proofs.Common.{◌≡◌, take, refl, ◌∙◌, arith}
use Rattle.std.proofs.lemmas.Result.{err_from_is_err_and}
use Rattle.kinds.specs.Kind.{sheet_size}
use Rattle.layout.specs.OwnKind.{own_layout}
use Rattle.overlay.proofs.Parts.{part_at}
use Rattle.reading.proofs.read_either.Goals as goal

pub returns-in_err-stored : goal.returns-in_err-stored
returns-in_err-stored c =
    let p = err_from_is_err_and c.from_residual.result c.from_residual.ensures.1 in
    let told = rw c.own.ensures at c.in_err-stored.ensures.response in
    rw (p.1, p.2, ← told) (record { response = refl; sheet_after = refl; answer_after = refl })

pub returns : goal.returns
returns c =
    let told = rw c.own.ensures at c.in_ok-stored.ensures in
    let stored = c.in_ok-stored.stored.sheet.now in
    let answer_is = c.copy_from_slice.ensures.after in
    let sheet_is : take (sheet_size (own_layout c.args.book.now).sheets) c.put.new.out ≡ stored = rw (c.put.ensures.bytes, ← told.sizes.0) (part_at c.args.sheet.now 0 stored (omega arith)) in
    rw (← told.response) (record { response = rw (sheet_is, answer_is) refl; sheet_after = rw (c.put.ensures.bytes, told.stored.0) refl; answer_after = answer_is ∙ told.stored.1 })
