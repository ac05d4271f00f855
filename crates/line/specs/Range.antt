-- A range in which no divisor is 0 and every figure fits 64 bits. That of 01, "The sheet: 24 bytes", lies within it.
-- Assumes nothing.
use Rattle.std.specs.Prelude.{◌≤◌}
use Rattle.line.specs.declared.Line.{Line}

pub record LineInRange (l : Line) : Type 0 where
  pub diameter_from : 100 ≤ l.diameter.0
  pub conductivity_to : l.conductivity ≤ 2_000
  pub coefficient_from : 100 ≤ l.coefficient
  pub coefficient_to : l.coefficient ≤ 10_000
