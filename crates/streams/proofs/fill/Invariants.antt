-- What was read stands at the start of the block, which keeps its length.
use Rattle.std.proofs.Common.{◌-◌, ◌≤◌, length, take}
use Rattle.std.specs.Io.KnownBytes.{Consumes}
use Rattle.streams.proofs.fill.Given as goal

abbrev pub invariant-loop-length : goal.invariant-loop-length
invariant-loop-length g l = record {
  within : l.length ≤ length l.block;
  bytes : Consumes (g.R.Read.remaining l.initial.reader) (g.R.Read.remaining l.reader) (take l.length l.block);
}

abbrev pub decreases-loop-length : goal.decreases-loop-length
decreases-loop-length g l = length l.block - l.length
