-- Every rung below r misses. The measure is how many rungs are left.
use Rattle.std.proofs.Common.{◌≡◌, ◌-◌, ◌≤◌, ◌<◌, ℕ}
use Rattle.lengths.specs.Ladder.{rungs}
use Rattle.verdict.specs.declared.Verdict.TheVariants.{Insufficient}
use Rattle.verdict.specs.Verdict.{verdict_of}
use Rattle.jacket.specs.Jacket.{jacketed}
use Rattle.jacket.proofs.JacketedPipe.search.Given as goal

abbrev pub invariant-ladder : goal.invariant-ladder
invariant-ladder l =
    let line = l.self.at.line.line in
    record {
      within : l.r ≤ rungs;
      below : (i : ℕ) → i < l.r → verdict_of line (jacketed line l.self.at.difference l.self.terms l.self.jacket) i ≡ Insufficient;
    }

abbrev pub decreases-ladder : goal.decreases-ladder
decreases-ladder l = rungs - l.r
