-- Which passes a sheet comes to, as the definitions decide it and as demand 2 states it.
-- Assumes nothing.
use mathlib.Core.Path.{◌≡◌, ap, ◌∙◌}
use mathlib.Core.Bool.{Bool, true, false, cond, and-false, and-eq-true_iff}
use borrow.Author.Tests.{lt-ltb, ltb-true}
use Rattle.std.specs.Prelude.{Option, Some, None}
use Rattle.lengths.specs.Ladder.{rungs}
use Rattle.requirement.specs.declared.Goal.{Goal}
use Rattle.verdict.specs.declared.Verdict.{Verdict}
use Rattle.verdict.specs.declared.Verdict.TheVariants.{Sufficient, Insufficient, Undecided}
use Rattle.verdict.specs.Verdict.{not_insufficient}
use Rattle.verdict.proofs.FirstRung.{sufficient_if, misses_before, first_is, first_none}
use Rattle.answer.specs.declared.Pass.{Pass}
use Rattle.answer.specs.declared.Pass.TheVariants.{First, Second}
use Rattle.sheet.specs.declared.fields.Sheet.{Sheet}
use Rattle.sheet.specs.Sheet.{goal_of}
use Rattle.sheet.specs.Search.{verdicts_by, first_by}
use Rattle.sheet.specs.Passes.{goal_in, succeeds, first_check, check_between, pass_after, too_close, deciding_pass}
use Rattle.sheet.proofs.Passes.{between, unchecked, after_over}
use Rattle.demands.specs.Demands.{InsufficientBelow, FirstUndecided, Found, Checked, Reaches, Decides}

module _ (s : Sheet) where
  -- the rung that a search finds is the first that does not miss
  pub found_first : (goal : Goal) (f : Found s goal) → first_by s goal ≡ f.rung
  found_first goal f = first_is (verdicts_by s goal) f.rung f.on_ladder (ap not_insufficient f.sufficient) f.first

  pub found_succeeds : (goal : Goal) → Found s goal → succeeds s goal ≡ true
  found_succeeds goal f = rw (found_first goal f, lt-ltb f.rung rungs f.on_ladder, f.sufficient)

  pub found : (goal : Goal) → succeeds s goal ≡ true → Found s goal
  found goal e =
      let both = (and-eq-true_iff _ _).0 e in
      record { rung = first_by s goal; on_ladder = ltb-true _ _ both.0; sufficient = sufficient_if _ both.1; first = misses_before (verdicts_by s goal) }

  -- the loss check between the passes
  pub check_is : (v : Verdict) → Checked s v → check_between s ≡ Some v
  unfolding check_between
  check_is v c =
      ap (λ (b : Bool). cond b (first_check s) None) ((and-eq-true_iff _ _).1 (c.respects, found_succeeds (goal_of s) c.found))
      ∙ rw (found_first (goal_of s) c.found) c.says

  pub checked : (v : Verdict) → check_between s ≡ Some v → Checked s v
  checked v e =
      let b = between s v e in
      let f = found (goal_of s) b.succeeded in
      record { respects = b.respects; found = f; says = rw (found_first (goal_of s) f) at b.says }

  pub reaches : (p : Pass) → deciding_pass s ≡ p → Reaches s p
  reaches First e = tt
  reaches Second e = checked Insufficient (after_over (check_between s) e)

  pub decides : (c : Option Verdict) → check_between s ≡ c → too_close c ≡ false → Decides s (pass_after c)
  decides (Some Sufficient) is not_close = λ v c. (let e = check_is v c in cc)
  decides (Some Insufficient) is not_close = checked Insufficient is
  decides (Some Undecided) is not_close = cc
  decides None is not_close = λ v c. (let e = check_is v c in cc)

  -- a pass that is reached and finds no rung decides
  pub decided : (p : Pass) → Reaches s p → succeeds s (goal_in s p) ≡ false → deciding_pass s ≡ p
  decided First reached fails = rw (unchecked s fails)
  decided Second reached fails = rw (check_is Insufficient reached)

  pub none_fails : (goal : Goal) → InsufficientBelow (verdicts_by s goal) rungs → succeeds s goal ≡ false
  none_fails goal all = rw (first_none (verdicts_by s goal) all)

  pub open_first : (goal : Goal) (f : FirstUndecided (verdicts_by s goal)) → first_by s goal ≡ f.0
  open_first goal f = first_is (verdicts_by s goal) f.0 f.1 (ap not_insufficient f.2) f.3

  pub open_fails : (goal : Goal) → FirstUndecided (verdicts_by s goal) → succeeds s goal ≡ false
  open_fails goal f = rw (open_first goal f, f.2, and-false)
