-- From 10.0 mm to e is from 10.0 mm to d, and from d to e.
use Rattle.std.proofs.Common.{refl, ◌∙◌, arith}
use Rattle.fractions.proofs.Sides.{both_of}
use Rattle.quadrature.specs.Figures.{log_bounds}
use Rattle.logarithm.proofs.Steps.{Joined, joined}
use Rattle.logarithm.proofs.log_beyond.Goals.{After-log_from_10mm}
use Rattle.logarithm.proofs.log_beyond.Goals as goal

parts : (c : After-log_from_10mm) → Joined c.args.inner (log_bounds c.args.d c.args.e) c.log_from_10mm.result
parts c = joined c.requires.1 c.requires.2 c.requires.3 c.requires.0 refl c.log_from_10mm.ensures

pub sub-requires : goal.sub-requires
sub-requires c = omega (arith, parts (goal.at.sub-requires c).After-log_from_10mm)

pub returns : goal.returns
returns c =
    let sum = parts (goal.at.returns c).After-log_from_10mm in
    c.sub.ensures ∙ both_of (omega arith) (omega arith)
