-- That a sheet is admitted has at most one proof.
-- Assumes nothing.
use Rattle.std.specs.Coded.{le_prop}
use Rattle.requirement.specs.declared.Goal.{Goal}
use Rattle.requirement.specs.declared.Goal.TheVariants.{Economy, Loss, Surface}
use Rattle.requirement.specs.Ranges.{GoalInRange}
use Rattle.sheet.specs.declared.fields.Sheet.{Sheet}
use Rattle.sheet.specs.Admitted.{Admitted}

one_range : (g : Goal) → IsProp (GoalInRange g)
one_range (Economy e) = hlevel le_prop
one_range (Loss aim) = hlevel le_prop
one_range (Surface s) = hlevel le_prop

pub one_proof : (s : Sheet) → IsProp (Admitted s)
one_proof s = hlevel (le_prop, one_range)
