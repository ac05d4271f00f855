-- The first rung that does not miss lies from low to high, and what is kept is what rung high provides, where there is one. The measure is
-- the distance between the two.
use Rattle.std.proofs.Common.{◌≡◌, ◌-◌, ◌≤◌, ◌<◌}
use Rattle.lengths.specs.Ladder.{rungs, thickness_at}
use Rattle.provision.specs.Provided.{provided}
use Rattle.verdict.specs.Verdict.{first_not_insufficient}
use Rattle.verdict.specs.Choice.{verdict_for}
use Rattle.verdict.proofs.choice.search.Given as goal

abbrev pub invariant-ladder : goal.invariant-ladder
invariant-ladder l =
    let line = l.prepared.line.line in
    let first = first_not_insufficient (verdict_for line l.required) in
    record {
      likely : l.likely ≤ rungs;
      below : l.low ≤ first;
      above : first ≤ l.high;
      within : l.high ≤ rungs;
      kept : l.high < rungs → l.provided ≡ provided line (thickness_at l.high);
    }

abbrev pub decreases-ladder : goal.decreases-ladder
decreases-ladder l = l.high - l.low
