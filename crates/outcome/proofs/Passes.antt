-- How the passes over the ladder end, and what the definitions respond then.
-- Assumes nothing.
use mathlib.Core.Path.{◌≡◌, refl, ◌∙◌, ap}
use mathlib.Core.Bool.{Bool, true, false, cond, and-true, or-true}
use mathlib.Core.List.{List}
use Prim.Native.Nat.{ℕ, ◌<◌}
use native.Mathlib.Omega.{arith}
use lib.Dec.{ltb}
use borrow.Author.Tests.{ltb-true, ltb-false}
use Rattle.std.specs.Prelude.{Option, Some, None, Result, Ok, Err}
use Rattle.lengths.specs.Ladder.{rungs}
use Rattle.refusals.specs.declared.Refusal.{Refusal}
use Rattle.refusals.specs.declared.Refusal.TheVariants.{NoneSufficient, TooClose}
use Rattle.refusals.specs.Numbers.{number_of}
use Rattle.refusals.specs.Response.{Response, refused, complete, respond}
use Rattle.requirement.specs.declared.Goal.{Goal}
use Rattle.verdict.specs.declared.Verdict.{Verdict}
use Rattle.verdict.specs.declared.Verdict.TheVariants.{Sufficient, Insufficient, Undecided}
use Rattle.verdict.specs.declared.choice.Rung.{Rung}
use Rattle.verdict.specs.Verdict.{is_undecided}
use Rattle.verdict.specs.Choice.{rung}
use Rattle.verdict.proofs.FirstRung.{sufficient_unless, undecided_if, first_within, first_not_insufficient_lem}
use Rattle.answer.specs.declared.Pass.{Pass}
use Rattle.sheet.specs.declared.fields.Sheet.{Sheet}
use Rattle.sheet.specs.Sheet.{goal_of}
use Rattle.sheet.specs.Search.{verdicts_by, first_by}
use Rattle.sheet.specs.Checks.{loss_check}
use Rattle.sheet.specs.Passes.{goal_in, succeeds, check_between, pass_after, too_close, deciding_pass, deciding_goal, verdicts, chosen}
use Rattle.sheet.specs.Refusals.{ladder_cases}
use Rattle.sheet.proofs.Ladder.{all_insufficient, first_undecided, first_decided}
use Rattle.sheet.proofs.Passes.{unchecked, after_close}
use Rattle.outcome.specs.Pass.{passed, pass_by, next}

-- what comes after a loss check between the passes
pub next_refused : (c : Option Verdict) {why : Refusal} → next c ≡ Err why → (too_close c ≡ true) × (why ≡ TooClose)
next_refused (Some Sufficient) e = cc
next_refused (Some Insufficient) e = cc
next_refused (Some Undecided) e = (refl, cc)
next_refused None e = cc

pub next_pass : (c : Option Verdict) {p : Pass} → next c ≡ Ok p → (too_close c ≡ false) × (pass_after c ≡ p)
next_pass (Some Sufficient) e = (refl, cc)
next_pass (Some Insufficient) e = (refl, cc)
next_pass (Some Undecided) e = cc
next_pass None e = (refl, cc)

passed_is : (a : Bool) (r : Rung) → passed (cond a (Some r) None) ≡ cond a (cond (is_undecided r.verdict) (Err TooClose) (Ok r)) (Err NoneSufficient)
passed_is true r = refl
passed_is false r = refl

module _ (s : Sheet) where
  -- the first rung that does not miss, if there is one
  abbrev first_rung : Goal → Rung
  first_rung goal = rung s.line (verdicts_by s goal) (first_by s goal)

  -- a pass found the rung r, or none
  pub record FoundRung (goal : Goal) (r : Rung) : Type 0 where
    pub is : r ≡ first_rung goal
    pub on_ladder : first_by s goal < rungs
    pub succeeded : succeeds s goal ≡ true

  abbrev pub Told : Goal → Result Rung Refusal → Type 0
  Told goal (Ok r) = FoundRung goal r
  Told goal (Err why) = succeeds s goal ≡ false

  pub told : (goal : Goal) → Told goal (pass_by s goal)
  told goal = rw (passed_is (ltb (first_by s goal) rungs) (first_rung goal)) (go (ltb (first_by s goal) rungs) (is_undecided (verdicts_by s goal (first_by s goal))) refl refl)
    where
      go :
          (a b : Bool) → ltb (first_by s goal) rungs ≡ a → is_undecided (verdicts_by s goal (first_by s goal)) ≡ b →
          Told goal (cond a (cond b (Err TooClose) (Ok (first_rung goal))) (Err NoneSufficient))
      go true true e f = rw (e, undecided_if _ f)
      go true false e f =
          let lt = ltb-true (first_by s goal) rungs e in
          record { is = refl; on_ladder = lt; succeeded = rw (e, sufficient_unless _ (first_not_insufficient_lem (verdicts_by s goal) lt) f) }
      go false b e f = rw e

  -- the loss check between the passes, where the first found none, and where it found r
  pub none_checked : (why : Refusal) → pass_by s (goal_of s) ≡ Err why → check_between s ≡ None
  none_checked why e = unchecked s (rw e at (told (goal_of s)))

  pub checked : (r : Rung) → pass_by s (goal_of s) ≡ Ok r → check_between s ≡ cond s.respects_limit (loss_check s r.provided) None
  unfolding check_between
  checked r e = let found : FoundRung (goal_of s) r = rw e at (told (goal_of s)) in rw (found.succeeded, found.is, and-true)

  -- the response where the check is not too close: the pass that decides gives it
  abbrev pub of_pass : List ℕ → Result Rung Refusal → Response
  of_pass bytes (Ok r) = complete bytes
  of_pass bytes (Err why) = refused (number_of why)

  pub ended : (bytes : List ℕ) → too_close (check_between s) ≡ false → respond (ladder_cases s) bytes ≡ of_pass bytes (pass_by s (deciding_goal s))
  ended bytes not_close = rw (passed_is (ltb (chosen s) rungs) (first_rung (deciding_goal s))) (go (ltb (chosen s) rungs) (is_undecided (verdicts s (chosen s))) refl refl)
    where
      go :
          (a b : Bool) → ltb (chosen s) rungs ≡ a → is_undecided (verdicts s (chosen s)) ≡ b →
          respond (ladder_cases s) bytes ≡ of_pass bytes (cond a (cond b (Err TooClose) (Ok (first_rung (deciding_goal s)))) (Err NoneSufficient))
      go true true e f = first_undecided s bytes (ltb-true _ _ e) (rw f)
      go true false e f = first_decided s bytes (ltb-true _ _ e) (rw (f, not_close))
      go false b e f = all_insufficient s bytes (omega (arith, ltb-false _ _ e, first_within (verdicts s)))

  -- the sheet is answered with the rung r
  pub record Given (r : Rung) : Type 0 where
    pub found : FoundRung (deciding_goal s) r
    pub response : (bytes : List ℕ) → respond (ladder_cases s) bytes ≡ complete bytes

  -- the pass p decides: what it refuses is refused, and the rung that it finds is the chosen one
  module _ (p : Pass) (decides : deciding_pass s ≡ p) (not_close : too_close (check_between s) ≡ false) where
    pub refused_by : (bytes : List ℕ) (why : Refusal) → pass_by s (goal_in s p) ≡ Err why → respond (ladder_cases s) bytes ≡ refused (number_of why)
    refused_by bytes why e = ended bytes not_close ∙ rw (decides, e)

    pub given : (r : Rung) → pass_by s (goal_in s p) ≡ Ok r → Given r
    given r e =
        let is : pass_by s (deciding_goal s) ≡ Ok r = rw (decides, e) in
        record { found = rw is at (told (deciding_goal s)); response = λ bytes. ended bytes not_close ∙ ap (of_pass bytes) is }

  -- the response where it is too close, the first pass having found r
  pub closed : (bytes : List ℕ) (r : Rung) → pass_by s (goal_of s) ≡ Ok r → too_close (check_between s) ≡ true → respond (ladder_cases s) bytes ≡ refused 18
  closed bytes r e close =
      let found : FoundRung (goal_of s) r = rw e at (told (goal_of s)) in
      let is = after_close (check_between s) close in
      first_undecided s bytes (rw is found.on_ladder) (rw (is, or-true))
