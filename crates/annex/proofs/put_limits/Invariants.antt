-- The first k limits are put, with a space after each.
use Rattle.std.proofs.Common.{◌≡◌, ◌+◌, ◌*◌, ◌≤◌, ◌++◌, length}
use Rattle.text.specs.Text.{concatenated}
use Rattle.annex.specs.Page.{limit}
use Rattle.annex.proofs.put_limits.Given as goal

abbrev pub invariant-loop-limit : goal.invariant-loop-limit
invariant-loop-limit g l = record {
  written : l.text.items ≡ l.initial.text.items ++ concatenated (limit 32) l.limit-index;
  room : length l.text.items ≤ length l.initial.text.items + 21 * l.limit-index;
}
