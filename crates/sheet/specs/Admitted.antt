-- The ranges of a sheet for which cases 12 to 16 and 43 fail, as far as what works it out asks for them. 01, "The sheet: 24 bytes",
-- and 02, N2, N4 and N6.
-- Assumes nothing.
use Rattle.std.specs.Prelude.{◌+◌, ◌-◌, ◌≤◌, ◌≡◌, true}
use Rattle.line.specs.Range.{LineInRange}
use Rattle.requirement.specs.Ranges.{GoalInRange}
use Rattle.temperatures.specs.Temperature.{zero_degrees}
use Rattle.sheet.specs.declared.fields.Sheet.{Sheet}
use Rattle.sheet.specs.Sheet.{difference, goal_of}

pub record Admitted (s : Sheet) : Type 0 where
  pub service_from : 1 ≤ s.service
  pub service_to : s.service ≤ 4
  pub line : LineInRange s.line
  pub conductivity_from : 1 ≤ s.line.conductivity
  pub temperature_to : s.temperature.0 ≤ zero_degrees + 6_500
  pub ambient_from : zero_degrees - 500 ≤ s.ambient.0
  pub ambient_to : s.ambient.0 ≤ zero_degrees + 500
  pub difference_from : 1 ≤ difference s
  pub difference_to : difference s ≤ 7_000
  pub goal : GoalInRange (goal_of s)
  pub cylinder : s.counts_jacket ≡ true → s.line.diameter.0 ≤ 10_000
