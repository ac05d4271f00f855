-- From 10.0 mm to e is from 10.0 mm to the millimetre above, less what lies beyond e; or from 10.0 mm to the millimetre below, and from
-- there to e.
use Rattle.std.proofs.Common.{refl, ◌∙◌, arith}
use Rattle.fractions.proofs.Sides.{both_of}
use Rattle.lengths.specs.Units.{tenths}
use Rattle.quadrature.specs.Figures.{log_bounds}
use Rattle.logarithm.proofs.Steps.{Joined, joined}
use Rattle.logarithm.proofs.log_from_10mm.Goals.{After-log_by_steps, After-log_by_steps-else-e-near}
use Rattle.logarithm.proofs.log_from_10mm.Goals as goal

down : (c : After-log_by_steps) → Joined (log_bounds (tenths 100) c.args.e) c.log_by_steps.result c.entry-start.result
down c = joined (omega arith) (omega arith) (omega arith) refl c.log_by_steps.ensures c.entry-start.ensures

up : (c : After-log_by_steps-else-e-near) → Joined c.entry-start.result c.log_by_steps-else-e-near.result (log_bounds (tenths 100) c.args.e)
up c = joined (omega arith) (omega arith) (omega arith) c.entry-start.ensures c.log_by_steps-else-e-near.ensures refl

pub sub-requires : goal.sub-requires
sub-requires c = omega (arith, down (goal.at.sub-requires c).After-log_by_steps)

pub add-requires : goal.add-requires
add-requires c = grind (arith, up (goal.at.add-requires c).After-log_by_steps-else-e-near)

pub returns-then-e-near : goal.returns-then-e-near
returns-then-e-near c =
    let sum = down (goal.at.returns-then-e-near c).After-log_by_steps in
    c.sub.ensures ∙ both_of (omega arith) (omega arith)

pub returns-else-e-near : goal.returns-else-e-near
returns-else-e-near c =
    let sum = up (goal.at.returns-else-e-near c).After-log_by_steps-else-e-near in
    grind (arith, c.add.ensures, sum.lower, sum.upper)
