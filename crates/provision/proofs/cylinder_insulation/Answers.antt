-- The outer diameter times each side of the logarithm fits, and each quotient is the insulation's.
use Rattle.std.proofs.Common.{arith}
use Rattle.fractions.proofs.Sides.{lower_of, upper_of, both_of}
use Rattle.quadrature.specs.Figures.{lower_step, upper_step}
use Rattle.logarithm.proofs.Steps.{lower_small, upper_small}
use Rattle.provision.specs.Provided.{insulation, insulation_bounds}
use Rattle.provision.proofs.Sizes.{cylinder_small}
use Rattle.provision.proofs.cylinder_insulation.Goals as goal

pub overflow_mul-result : goal.overflow_mul-result
overflow_mul-result c = omega (arith, cylinder_small lower_step lower_small c.requires.1 c.requires.2 c.requires.3 c.outer-e.ensures (lower_of c.log_beyond-log.ensures))

pub overflow_mul-e : goal.overflow_mul-e
overflow_mul-e c = omega (arith, cylinder_small upper_step upper_small c.requires.1 c.requires.2 c.requires.3 c.outer-e.ensures (upper_of c.log_beyond-log.ensures))

pub returns : goal.returns
unfolding insulation insulation_bounds
returns c = both_of (rw (c.log_beyond-log.ensures, c.outer-e.ensures)) (rw (c.quotient.ensures, c.log_beyond-log.ensures, c.outer-e.ensures))
