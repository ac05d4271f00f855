-- The first k lines are put.
use Rattle.std.proofs.Common.{◌≡◌, ◌+◌, ◌*◌, ◌≤◌, ◌++◌, length}
use Rattle.text.specs.Text.{concatenated}
use Rattle.annex.specs.Page.{entry_line}
use Rattle.annex.proofs.put_figures.Given as goal

abbrev pub invariant-loop-k : goal.invariant-loop-k
invariant-loop-k g l = record {
  written : l.text.items ≡ l.initial.text.items ++ concatenated entry_line l.k;
  room : length l.text.items ≤ length l.initial.text.items + 63 * l.k;
}
