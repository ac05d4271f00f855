-- What a sheet is judged by against a goal: where that counts the jacket, and where it requires the same at every thickness.
-- Assumes nothing.
use mathlib.Core.Path.{◌≡◌, refl, ap}
use mathlib.Core.Bool.{Bool, true, false, cond, ◌&&◌}
use native.Mathlib.Omega.{arith}
use Rattle.lengths.specs.declared.units.Thickness.{Thickness}
use Rattle.requirement.specs.declared.EconomyTerms.{EconomyTerms}
use Rattle.requirement.specs.declared.Goal.{Goal}
use Rattle.requirement.specs.declared.Goal.TheVariants.{Economy, Loss, Surface}
use Rattle.requirement.specs.Ranges.{GoalInRange}
use Rattle.requirement.specs.Criterion.{Criterion, IsFraction}
use Rattle.requirement.proofs.Requirements.{in_range_proper}
use Rattle.requirement.specs.Criterion.Criterion.{enclosed}
use Rattle.jacket.specs.Jacket.{jacketed}
use Rattle.jacket.proofs.Proper.{jacketed_proper}
use Rattle.verdict.specs.Verdict.{verdict_of}
use Rattle.verdict.specs.Choice.{verdict_for}
use Rattle.sheet.specs.declared.fields.GoalCode.{GoalCode}
use Rattle.sheet.specs.declared.fields.GoalCode.TheVariants.{ForEconomy, ForLoss, ForSurface}
use Rattle.sheet.specs.declared.fields.Sheet.{Sheet}
use Rattle.sheet.specs.Sheet.{uses_economy, difference, goal_with}
use Rattle.sheet.specs.Search.{requirement_of, required_of, criterion_of, verdicts_by}
use Rattle.sheet.specs.Passes.{deciding_goal}
use Rattle.sheet.specs.Admitted.{Admitted}
use Rattle.sheet.proofs.Passes.{deciding_in_range}

module _ (s : Sheet) where
  abbrev by : EconomyTerms → Bool → Thickness → Criterion
  by e counted k = cond counted (jacketed s.line (difference s) e s.aim k) (enclosed (requirement_of s (Economy e)))

  pub with_jacket : (g : GoalCode) → (uses_economy g && s.counts_jacket) ≡ true → verdicts_by s (goal_with s g) ≡ verdict_of s.line (jacketed s.line (difference s) s.economy s.aim)
  with_jacket ForEconomy e = ap (λ (counted : Bool). verdict_of s.line (by s.economy counted)) e
  with_jacket ForLoss e = cc
  with_jacket ForSurface e = cc

  pub same_at_each : (g : GoalCode) → (uses_economy g && s.counts_jacket) ≡ false → verdicts_by s (goal_with s g) ≡ verdict_for s.line (required_of s (goal_with s g))
  same_at_each ForEconomy e = ap (λ (counted : Bool). verdict_of s.line (by s.economy counted)) e
  same_at_each ForLoss e = refl
  same_at_each ForSurface e = refl

  -- a sheet that does not count the jacket has one criterion for all thicknesses
  pub one_criterion : (goal : Goal) → s.counts_jacket ≡ false → (k : Thickness) → criterion_of s goal k ≡ enclosed (requirement_of s goal)
  one_criterion (Economy e) none k = ap (λ (counted : Bool). by e counted k) none
  one_criterion (Loss aim) none k = refl
  one_criterion (Surface beyond) none k = refl

-- what have is compared with is a fraction
module _ (s : Sheet) (in_range : Admitted s) where
  proper_by : (goal : Goal) → GoalInRange goal → (k : Thickness) → IsFraction (criterion_of s goal k)
  proper_by (Economy e) range k = go s.counts_jacket
    where
      go : (counted : Bool) → IsFraction (by s e counted k)
      go true = jacketed_proper s.line (difference s) e s.aim k (omega (arith, in_range.line.coefficient_from)) (omega (arith, in_range.line.diameter_from)) range
      go false = in_range_proper s.line (difference s) (Economy e) in_range.line range
  proper_by (Loss aim) range k = in_range_proper s.line (difference s) (Loss aim) in_range.line range
  proper_by (Surface beyond) range k = in_range_proper s.line (difference s) (Surface beyond) in_range.line range

  pub deciding_proper : (k : Thickness) → IsFraction (criterion_of s (deciding_goal s) k)
  deciding_proper = proper_by (deciding_goal s) (deciding_in_range s in_range)
