-- What it means that there is a loss check between the passes.
-- Assumes nothing.
use mathlib.Core.Path.{◌≡◌, refl, ap}
use mathlib.Core.Bool.{Bool, true, false, cond, ◌&&◌, and-false}
use Prim.Native.Nat.{◌≤◌}
use native.Mathlib.Omega.{arith}
use borrow.Author.Tests.{eq-eqb}
use Rattle.std.specs.Prelude.{Option, Some, None}
use Rattle.fractions.specs.declared.Bounds.{Bounds}
use Rattle.requirement.specs.Ranges.{GoalInRange}
use Rattle.verdict.specs.declared.Verdict.{Verdict}
use Rattle.verdict.specs.declared.Verdict.TheVariants.{Sufficient, Insufficient, Undecided}
use Rattle.answer.specs.declared.Pass.TheVariants.{Second}
use Rattle.limits.specs.Limits.{loss_limit}
use Rattle.limits.proofs.Size.{some_size, limit_size}
use Rattle.sheet.specs.declared.fields.Sheet.{Sheet}
use Rattle.sheet.specs.Sheet.{goal_of}
use Rattle.sheet.specs.Checks.{loss_check}
use Rattle.sheet.specs.Passes.{second_aim, goal_in, succeeds, first_check, check_between, pass_after, too_close, deciding_goal}
use Rattle.sheet.specs.Admitted.{Admitted}

-- the first pass's check is one between the passes, and says v
pub record Between (s : Sheet) (v : Verdict) : Type 0 where
  pub respects : s.respects_limit ≡ true
  pub succeeded : succeeds s (goal_of s) ≡ true
  pub says : first_check s ≡ Some v

pub between : (s : Sheet) (v : Verdict) → check_between s ≡ Some v → Between s v
unfolding check_between
between s v = go s.respects_limit (succeeds s (goal_of s)) refl refl
  where
    go : (a b : Bool) → s.respects_limit ≡ a → succeeds s (goal_of s) ≡ b → cond (a && b) (first_check s) None ≡ Some v → Between s v
    go true true e f h = record { respects = e; succeeded = f; says = h }
    go true false e f h = cc
    go false b e f h = cc

-- a goal that does not have to respect the limit has no such check, and so its first pass decides
pub no_check : (s : Sheet) → s.respects_limit ≡ false → check_between s ≡ None
unfolding check_between
no_check s e = ap (λ (b : Bool). cond (b && succeeds s (goal_of s)) (first_check s) None) e

-- nor is there one where the first pass gives no thickness
pub unchecked : (s : Sheet) → succeeds s (goal_of s) ≡ false → check_between s ≡ None
unfolding check_between
unchecked s fails = rw (fails, and-false)

-- the second pass comes after a check that says over
pub after_over : (c : Option Verdict) → pass_after c ≡ Second → c ≡ Some Insufficient
after_over (Some Sufficient) e = cc
after_over (Some Insufficient) e = refl
after_over (Some Undecided) e = cc
after_over None e = cc

-- and 18 after one that says too close
pub after_close : (c : Option Verdict) → too_close c ≡ true → c ≡ Some Undecided
after_close (Some Sufficient) e = cc
after_close (Some Insufficient) e = cc
after_close (Some Undecided) e = refl
after_close None e = cc

-- a limit is printed, as every check tells
abbrev pub Printed : Sheet → Type 0
Printed s = ¬ (loss_limit s.service s.temperature ≡ 0)

pub printed_for : (s : Sheet) (p : Bounds) (v : Verdict) → loss_check s p ≡ Some v → Printed s
unfolding loss_check
printed_for s p v h e = let none : None ≡ Some v = rw (eq-eqb _ _ e) at h in cc

pub second_aim_some : (s : Sheet) → Printed s → 1 ≤ second_aim s
second_aim_some s some = omega (arith, some_size (limit_size s.service s.temperature) some)

-- the goal that decides an admitted sheet is in range
pub deciding_in_range : (s : Sheet) → Admitted s → GoalInRange (deciding_goal s)
deciding_in_range s in_range = go (check_between s) refl
  where
    go : (c : Option Verdict) → check_between s ≡ c → GoalInRange (goal_in s (pass_after c))
    go (Some Sufficient) e = in_range.goal
    go (Some Insufficient) e = second_aim_some s (printed_for s _ _ (between s _ e).says)
    go (Some Undecided) e = in_range.goal
    go None e = in_range.goal
