-- v + 1 adds more than the gap to the square of a. The measure is v.
use Rattle.std.proofs.Common.{◌+◌, ◌*◌, ◌<◌}
use Rattle.roots.proofs.increment.Given as goal

abbrev pub invariant-loop-v : goal.invariant-loop-v
invariant-loop-v l = (l.v < l.limit) × (l.gap < (l.v + 1) * (2 * l.a + (l.v + 1)))

abbrev pub decreases-loop-v : goal.decreases-loop-v
decreases-loop-v l = l.v
