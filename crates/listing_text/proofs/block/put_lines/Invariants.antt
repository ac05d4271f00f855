-- The lines so far, and then those of what is left.
use Rattle.std.proofs.Common.{◌≡◌, ◌+◌, ◌*◌, ◌≤◌}
use Rattle.std.specs.Slice.Iter.{chunks_rest, chunks_size}
use Rattle.listing_text.specs.Listing.{chunks, lines_of}
use Rattle.listing_text.proofs.block.put_lines.Given as goal

abbrev pub invariant-loop-sheet : goal.invariant-loop-sheet
invariant-loop-sheet g l = record {
  next : (goal.iterator-loop-sheet g).can_next l.sheet-iterator;
  finite : (goal.iterator-loop-sheet g).is_finite l.sheet-iterator;
  size : chunks_size l.sheet-iterator ≡ 24;
  written : g.S.TextSink.with_text l.text (lines_of (chunks_rest l.sheet-iterator)) ≡ g.S.TextSink.with_text l.initial.text (lines_of l.sheets);
  filled : g.S.TextSink.filled l.text + 108 * chunks (chunks_rest l.sheet-iterator) ≤ g.S.TextSink.filled l.initial.text + 108 * chunks l.sheets;
  room : g.S.TextSink.room l.text ≡ g.S.TextSink.room l.initial.text;
}
