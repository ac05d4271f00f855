-- No block more may follow, or so many blocks are read as no run reads.
use Rattle.std.proofs.Common.{rules}
use Rattle.listing.proofs.Blocks.{endless, last}
use Rattle.listing.proofs.list_all.Goals as goal

pub returns-after-loop : goal.returns-after-loop
returns-after-loop g c = endless _ _ _ _ _ c.loop.invariant (search rules)

pub returns-then-not-branch : goal.returns-then-not-branch
returns-then-not-branch g c = last _ _ _ _ _ _ _ c.loop.invariant _ c.in_ok-list_block.ensures c.if-not-branch.true
