-- What was read so far is whole blocks, and the header and its lines are written.
use Rattle.listing.proofs.Blocks.{Listed}
use Rattle.listing.proofs.list_all.Given as goal

abbrev pub invariant-loop : goal.invariant-loop
invariant-loop g l = Listed (g.R.Read.remaining l.fn.reader) (g.R.Read.remaining l.reader) (g.W.Write.contents l.fn.out) (g.W.Write.contents l.out) l.counter
