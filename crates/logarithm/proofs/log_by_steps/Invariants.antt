-- The logarithm to i.
use Rattle.std.proofs.Common.{◌≡◌, ◌≤◌}
use Rattle.lengths.specs.Units.{tenths}
use Rattle.quadrature.specs.Figures.{log_bounds}
use Rattle.logarithm.proofs.log_by_steps.Given as goal

abbrev pub invariant-loop-i : goal.invariant-loop-i
invariant-loop-i l = (l.fn.d.0 ≤ l.i) × (l.log ≡ log_bounds l.fn.d (tenths l.i))
