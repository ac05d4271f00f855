-- A rung that does not miss bounds the first one from above; one that misses, from below, since what is provided grows.
use Rattle.std.proofs.Common.{rules, ◌≡◌, true, sym, arith}
use Rattle.lengths.specs.Ladder.{thickness_at}
use Rattle.provision.specs.Provided.{provided}
use Rattle.verdict.specs.Verdict.{not_insufficient}
use Rattle.verdict.specs.Choice.{verdict_for}
use Rattle.verdict.proofs.FirstRung.{insufficient_unless, first_within, first_above, first_not_above}
use Rattle.verdict.proofs.Growth.{insufficient_below}
use Rattle.verdict.proofs.choice.search.Goals.{After-judge}
use Rattle.verdict.proofs.choice.search.Goals as goal

-- what was tried is the rung's have
tried : (c : After-judge) → c.at-tried.result ≡ provided c.args.prepared.line.line (thickness_at c.next_trial-r.result)
tried c = rw (c.at-tried.ensures, c.thickness.ensures)

pub ladder-init : goal.ladder-init
ladder-init c =
    let whole = c.count-high.ensures in
    record {
      likely = c.likely_rung-likely.ensures;
      below = omega arith;
      above = omega (arith, whole, first_within (verdict_for c.args.prepared.line.line c.args.required));
      within = omega (arith, whole);
      kept = λ lt. absurd (omega (arith, whole, lt));
    }

pub ladder-preserved-then-not_insufficient : goal.ladder-preserved-then-not_insufficient
ladder-preserved-then-not_insufficient c =
    let l = c.args.prepared.line.line in
    let r = c.next_trial-r.result in
    let at_trial = tried (goal.at.ladder-preserved-then-not_insufficient c).After-judge in
    let meets : not_insufficient (verdict_for l c.args.required r) ≡ true = rw (← at_trial, ← c.judge.ensures) (sym c.if-not_insufficient.ensures) in
    let known = c.ladder.invariant in
    record { likely = known.likely; below = omega (arith, known.below); above = first_not_above (verdict_for l c.args.required) r meets; within = search rules; kept = λ lt. at_trial }

pub ladder-preserved : goal.ladder-preserved
ladder-preserved c =
    let l = c.args.prepared.line.line in
    let r = c.next_trial-r.result in
    let at_trial = tried (goal.at.ladder-preserved c).After-judge in
    let misses = insufficient_unless (verdict_for l c.args.required r) (rw (← at_trial, ← c.judge.ensures) (sym c.if-not_insufficient.ensures)) in
    let known = c.ladder.invariant in
    let above = first_above (verdict_for l c.args.required) (λ i j le. insufficient_below l c.args.required le) r (search rules) misses in
    record { likely = known.likely; below = omega (arith, above); above = known.above; within = known.within; kept = known.kept }
