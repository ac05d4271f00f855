-- The fractions of the criterion, cleared.
use Rattle.std.proofs.Common.{rules, ◌≡◌, ◌-◌, ◌*◌, ◌≤◌, ◌<◌, arith}
use borrow.Author.Tests.{le-leb, lt-leb}
use Rattle.lengths.specs.Units.{outer_diameter}
use Rattle.jacket.proofs.Sizes.{squares_fit}
use Rattle.jacket.proofs.Cleared.{judged_cleared}
use Rattle.jacket.proofs.JacketedPipe.judge.Goals as goal

pub returns-then-not-positive : goal.returns-then-not-positive
returns-then-not-positive c =
    let a = c.args.self in
    let l = a.at.line.line in
    let le : l.coefficient * (outer_diameter l.diameter c.args.k).0 ≤ 200 * l.conductivity = search rules in
    rw (judged_cleared l a.at.difference a.terms a.jacket c.args.k c.args.p (omega arith), le-leb _ _ le) (search rules)

pub judge_squares-requires : goal.judge_squares-requires
judge_squares-requires c =
    rw (c.requires.1) (squares_fit c.args.self.at.line.line c.args.k c.args.self.at.line.in_range c.args.self.cylinder c.requires.0 c.insulation_cost.result c.insulation_cost.ensures.1)

pub returns : goal.returns
returns c =
    let a = c.args.self in
    let l = a.at.line.line in
    let lt : 200 * l.conductivity < l.coefficient * (outer_diameter l.diameter c.args.k).0 = search rules in
    let X = a.terms.heat * l.conductivity * a.terms.hours * a.at.difference in
    let d = l.coefficient * (outer_diameter l.diameter c.args.k).0 - 200 * l.conductivity in
    let same : 14_402_025_000 * X * d ≡ 1000 * X * (14_402_025 * d) = omega arith in
    rw (judged_cleared l a.at.difference a.terms a.jacket c.args.k c.args.p (omega arith), lt-leb _ _ lt, same) (search rules)
