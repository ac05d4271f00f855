-- The products fit, and the factor under the root is a thousand times the square of a whole number.
use Rattle.std.proofs.Common.{◌≡◌, ℕ, ◌*◌, ap, ◌∙◌, arith}
use Rattle.fractions.specs.Fraction.{◌over◌}
use Rattle.roots.specs.Root.{root_bounds}
use Rattle.line.specs.Line.{shape_of}
use Rattle.requirement.specs.Required.{economy_factor, requirement, enclosing}
use Rattle.requirement.proofs.economy.Goals as goal

pub returns : goal.returns
unfolding requirement enclosing
returns c =
    let terms = c.args.terms in
    let x = terms.heat * c.args.at.line.line.conductivity * terms.hours * c.args.at.difference in
    let k = c.printed_coefficient.result in
    let square : k * k * 1000 ≡ economy_factor (shape_of c.args.at.line.line) = c.printed_coefficient.ensures.0 ∙ ap economy_factor c.shape.ensures in
    c.root.ensures ∙ ap (λ (n : ℕ). root_bounds (n over (terms.insulation * terms.share))) (omega (arith, ap (λ (t : ℕ). t * x) square))
