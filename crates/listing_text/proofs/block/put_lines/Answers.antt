-- The first line of what is left, and no line of nothing.
use Rattle.std.proofs.Common.{arith}
use Rattle.std.proofs.lemmas.Grind.{common_steps}
use Rattle.std.proofs.lemmas.List.{nil_from_length}
use Rattle.std.specs.Slice.Iter.{chunks_rest}
use Rattle.listing_text.proofs.Cut.{count, first_line, none}
use Rattle.listing_text.proofs.block.put_lines.Goals as goal

pub loop-sheet-preserved : goal.loop-sheet-preserved
loop-sheet-preserved g c =
    let loop = c.loop-sheet in
    let all = chunks_rest loop.sheet-iterator in
    let sheet = c.in-Some.sheet.now in
    let rest = chunks_rest c.next.new.self in
    let steps = c.in-Some.ensures.steps in
    let size = rw loop.invariant.size at steps.1.1 in
    let more = count all sheet rest steps.1.0 size steps.1.2 in
    let written = rw (first_line all sheet rest steps.1.0 size steps.1.2, ← g.met.S.TextSink.then) at loop.invariant.written in
    grind (arith, common_steps, more, written)

pub returns-clause-written : goal.returns-clause-written
returns-clause-written g c =
    let nothing = nil_from_length (chunks_rest c.loop-sheet.sheet-iterator) c.in-None.ensures.steps.1.0 in
    rw (nothing, none, g.met.S.TextSink.none) at c.loop-sheet.invariant.written
