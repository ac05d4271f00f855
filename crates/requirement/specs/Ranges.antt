-- Ranges in which no divisor is 0 and every figure fits 64 bits. Those of 01, "The sheet: 24 bytes", lie within them.
-- Assumes nothing.
use Rattle.std.specs.Prelude.{◌≤◌}
use Rattle.requirement.specs.declared.EconomyTerms.{EconomyTerms}
use Rattle.requirement.specs.declared.Goal.{Goal}
use Rattle.requirement.specs.declared.Goal.TheVariants.{Economy, Loss, Surface}

pub record EconomyInRange (e : EconomyTerms) : Type 0 where
  pub heat_to : e.heat ≤ 65_535
  pub hours_to : e.hours ≤ 8_784
  pub insulation_from : 1 ≤ e.insulation
  pub insulation_to : e.insulation ≤ 65_535
  pub share_from : 1 ≤ e.share
  pub share_to : e.share ≤ 10_000

-- a surface is no farther from the air than the largest temperature difference
abbrev pub GoalInRange : Goal → Type 0
GoalInRange (Economy e) = EconomyInRange e
GoalInRange (Loss aim) = 1 ≤ aim
GoalInRange (Surface s) = (1 ≤ s) × (s ≤ 7_000)
