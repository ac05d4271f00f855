-- The first trial that does not miss is the first rung that does not; where there is none, all miss.
use Rattle.std.proofs.Common.{rules, ◌≡◌, true, arith}
use borrow.Author.Tests.{lt-ltb}
use Rattle.lengths.specs.Ladder.{rungs}
use Rattle.verdict.specs.Verdict.{not_insufficient, verdict_of, first_not_insufficient}
use Rattle.verdict.proofs.FirstRung.{first_is, first_none}
use Rattle.jacket.specs.Jacket.{jacketed}
use Rattle.jacket.proofs.JacketedPipe.search.Goals as goal

pub returns-then-not_insufficient : goal.returns-then-not_insufficient
returns-then-not_insufficient c =
    let a = c.args.self in
    let l = a.at.line.line in
    let v = verdict_of l (jacketed l a.at.difference a.terms a.jacket) in
    let here : not_insufficient (v c.ladder.r) ≡ true = search rules in
    let first : first_not_insufficient v ≡ c.ladder.r = first_is v c.ladder.r (search rules) here c.ladder.invariant.below in
    rw (first, lt-ltb c.ladder.r rungs (search rules)) (search rules)

pub returns : goal.returns
returns c =
    let a = c.args.self in
    let l = a.at.line.line in
    let v = verdict_of l (jacketed l a.at.difference a.terms a.jacket) in
    let all : first_not_insufficient v ≡ rungs = first_none v (λ r lt. c.ladder.invariant.below r (omega arith)) in
    rw (all) (search rules)
