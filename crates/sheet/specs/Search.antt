-- The search of the ladder. 01, "Ladder and figures", and 02, N6.
-- Assumes nothing.
use Rattle.std.specs.Prelude.{ℕ, cond}
use Rattle.fractions.specs.declared.Bounds.{Bounds}
use Rattle.lengths.specs.declared.units.Thickness.{Thickness}
use Rattle.requirement.specs.declared.Goal.{Goal}
use Rattle.requirement.specs.declared.Goal.TheVariants.{Economy, Loss, Surface}
use Rattle.requirement.specs.Required.{Requirement, requirement, enclosing}
use Rattle.requirement.specs.Criterion.{Criterion}
use Rattle.requirement.specs.Criterion.Criterion.{enclosed}
use Rattle.jacket.specs.Jacket.{jacketed}
use Rattle.verdict.specs.declared.Verdict.{Verdict}
use Rattle.verdict.specs.Verdict.{verdict_of, first_not_insufficient}
use Rattle.sheet.specs.declared.fields.Sheet.{Sheet}
use Rattle.sheet.specs.Sheet.{difference}

-- what a goal requires of the sheet's line
abbrev pub requirement_of : Sheet → Goal → Requirement
requirement_of s goal = requirement s.line (difference s) goal

-- low need and high need of a goal
abbrev pub required_of : Sheet → Goal → Bounds
required_of s goal = enclosing (requirement_of s goal)

-- What a thickness is judged by, against a goal. "Have and need both depend on the rung" (02, N6) under economy that counts the jacket, the
-- aim being the jacket's price; otherwise the same is required at every thickness.
abbrev pub criterion_of : Sheet → Goal → Thickness → Criterion
criterion_of s (Economy e) k = cond s.counts_jacket (jacketed s.line (difference s) e s.aim k) (enclosed (requirement_of s (Economy e)))
criterion_of s (Loss aim) k = enclosed (requirement_of s (Loss aim))
criterion_of s (Surface beyond) k = enclosed (requirement_of s (Surface beyond))

-- the verdict on the rung with index r, against a goal
abbrev pub verdicts_by : Sheet → Goal → ℕ → Verdict
verdicts_by s goal = verdict_of s.line (criterion_of s goal)

-- "The first rung that doesn't miss", against a goal: its index
abbrev pub first_by : Sheet → Goal → ℕ
first_by s goal = first_not_insufficient (verdicts_by s goal)
