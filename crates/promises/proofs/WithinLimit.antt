-- What is promised of goal 6.
-- Assumes nothing.
use mathlib.Core.Path.{◌≡◌, refl, sym, ap, ◌∙◌}
use mathlib.Core.Bool.{true}
use mathlib.Core.Logic.{◌⊎◌, inl, inr}
use mathlib.Core.List.{List, ◌∷◌}
use Prim.Native.Nat.{ℕ, ◌≤◌, ◌<◌}
use native.Mathlib.Nat.{le_refl}
use native.Mathlib.Omega.{arith}
use lib.ListN.{length, get_or}
use borrow.Author.Tests.{eqb-true, ne_eqb, not-false}
use Rattle.kinds.specs.declared.Kind.TheVariants.{Standard}
use Rattle.std.specs.Prelude.{Option, Some}
use Rattle.fractions.specs.declared.Bounds.{Bounds}
use Rattle.lengths.specs.Ladder.{thickness_at}
use Rattle.refusals.specs.Cases.{NoneHolds}
use Rattle.refusals.specs.Response.{complete}
use Rattle.big_endian.specs.Bytes.{big_endian}
use Rattle.requirement.specs.declared.Goal.TheVariants.{Loss}
use Rattle.requirement.proofs.Losses.{loss_requires_less}
use Rattle.provision.specs.Provided.{provided}
use Rattle.verdict.specs.declared.Verdict.{Verdict}
use Rattle.verdict.specs.declared.Verdict.TheVariants.{Sufficient, Insufficient}
use Rattle.verdict.specs.Verdict.{judged}
use Rattle.verdict.proofs.Growth.{Below, less_insufficient, sufficient_for_less, insufficient_below}
use Rattle.answer.specs.declared.Pass.{Pass}
use Rattle.answer.specs.declared.Pass.TheVariants.{First, Second}
use Rattle.answer.specs.Answer.{pass_code, loss_code}
use Rattle.limits.specs.Limits.{loss_limit}
use Rattle.sheet.specs.declared.fields.Sheet.{Sheet}
use Rattle.sheet.specs.Sheet.{decoded, decoded_as, difference, goal_of}
use Rattle.sheet.specs.Search.{required_of}
use Rattle.sheet.specs.Checks.{loss_check}
use Rattle.sheet.specs.Passes.{second_aim, goal_in, pass_after, deciding_pass}
use Rattle.sheet.specs.Refusals.{response_to}
use Rattle.sheet.proofs.Passes.{no_check, between, Printed, printed_for, second_aim_some}
use Rattle.demands.specs.Demands.{AnswerTo, Decides, Found, Checked}
use Rattle.demands.proofs.Passes.{found_first}
use Rattle.demands.proofs.Sheets.{sheet_demand_2}
use Rattle.promises.specs.WithinLimit.{AnswerWith, loss_sheet, with_byte_0_as_1, WithinLimit}
use Rattle.promises.proofs.AsGoal1.{check_over, no_fault, refused_alike, within, close}
use Rattle.promises.proofs.AsGoal2.{over_is_loss}

-- a check where a limit is printed
check_of : (s : Sheet) (p : Bounds) → Printed s → loss_check s p ≡ Some (judged p (required_of s (Loss (loss_limit s.service s.temperature))))
unfolding loss_check
check_of s p some = rw (ne_eqb _ 0 some)

-- the second pass requires no less than the limit does
stricter : (s : Sheet) → Printed s → Below (required_of s (Loss (loss_limit s.service s.temperature))) (required_of s (Loss (second_aim s)))
stricter s some = loss_requires_less s.line (difference s) (second_aim_some s some) (omega arith)

-- a pass is told by its code
same_pass : (p q : Pass) → pass_code p ≡ pass_code q → p ≡ q
same_pass First First e = refl
same_pass First Second e = absurd (omega (arith, e))
same_pass Second First e = absurd (omega (arith, e))
same_pass Second Second e = refl

-- an answered sheet
module _ (sheet bytes : List ℕ) (h : response_to sheet ≡ complete bytes) where
  abbrev s : Sheet
  s = decoded sheet

  got : AnswerTo s bytes
  got = (sheet_demand_2 Standard sheet).answered bytes h

  only_6 : s.respects_limit ≡ true → get_or sheet 0 0 ≡ 6
  unfolding decoded_as
  only_6 e = eqb-true _ _ e

  goal_6_only : (get_or bytes 0 0 ≡ 0) ⊎ ((get_or bytes 0 0 ≡ 1) × (get_or sheet 0 0 ≡ 6))
  goal_6_only = by_pass (deciding_pass s) got.start got.pass
    where
      by_pass : (p : Pass) → get_or bytes 0 0 ≡ pass_code p → Decides s p → (get_or bytes 0 0 ≡ 0) ⊎ ((get_or bytes 0 0 ≡ 1) × (get_or sheet 0 0 ≡ 6))
      by_pass First start pass = inl start
      by_pass Second start pass = inr (start, only_6 pass.respects)

-- and one that is answered by the second pass
module _ (sheet bytes : List ℕ) (h : AnswerWith 1 sheet bytes) where
  abbrev t : Sheet
  t = decoded sheet

  known : AnswerTo t bytes
  known = got sheet bytes h.answered

  second : deciding_pass t ≡ Second
  second = same_pass _ Second (sym known.start ∙ h.start)

  says_over : Checked t Insufficient
  says_over = rw second at known.pass

  printed : Printed t
  printed = printed_for t _ _ says_over.says

  check_within : get_or bytes 4 0 ≡ 0
  check_within =
      let p = provided t.line (thickness_at known.found.rung) in
      let enough : judged p (required_of t (Loss (second_aim t))) ≡ Sufficient = rw second at known.found.sufficient in
      known.loss ∙ ap loss_code (check_of t p printed ∙ ap Some (sufficient_for_less p _ _ (stricter t printed) enough))

  thicker : (first : Found t (goal_of t)) → (thickness_at first.rung).0 < big_endian bytes 2 2
  thicker first =
      let q = required_of t (Loss (second_aim t)) in
      let r = says_over.found.rung in
      let same : first.rung ≡ r = sym (found_first t (goal_of t) first) ∙ found_first t (goal_of t) says_over.found in
      let p = provided t.line (thickness_at r) in
      let too_thin : judged p (required_of t (Loss (loss_limit t.service t.temperature))) ≡ Insufficient = cc (sym (check_of t p printed) ∙ says_over.says) in
      let still : judged p q ≡ Insufficient = less_insufficient p p _ q (le_refl _, le_refl _) (stricter t printed) too_thin in
      let enough : judged (provided t.line (thickness_at known.found.rung)) q ≡ Sufficient = rw second at known.found.sufficient in
      let above : ¬ (known.found.rung ≤ r) = λ le. cc (sym (insufficient_below t.line q le still) ∙ enough) in
      omega (arith, known.thickness, known.found.on_ladder, same)

checked_over : (rest bytes : List ℕ) → response_to (1 ∷ rest) ≡ complete bytes → get_or bytes 4 0 ≡ 1 → response_to (6 ∷ rest) ≡ with_byte_0_as_1 (response_to (loss_sheet rest (second_aim (decoded (6 ∷ rest)))))
unfolding NoneHolds
checked_over rest bytes h e =
    let is = check_over rest bytes h e in
    let none = no_fault rest bytes h in
    let s = decoded (6 ∷ rest) in
    let all : length (1 ∷ rest) ≡ 24 = eqb-true _ _ (not-false _ none.0) in
    over_is_loss rest (omega (arith, all)) (printed_for s _ _ (between s _ is).says) is none

pub within_limit : WithinLimit
within_limit =
    record {
      aim = λ s. (omega arith, omega arith);
      one_pass = λ s e. (ap pass_after (no_check s e), ap (λ (c : Option Verdict). goal_in s (pass_after c)) (no_check s e));
      as_goal_1 = λ rest. record { refused_alike = refused_alike rest; within = within rest; close = close rest; over = checked_over rest };
      goal_6_only = goal_6_only;
      first_equation = λ sheet bytes h. ap (goal_in (decoded sheet)) (same_pass _ First (sym (got sheet bytes h.answered).start ∙ h.start));
      second_equation = λ sheet bytes h. ap (goal_in (decoded sheet)) (second sheet bytes h);
      check_within = check_within;
      thicker = thicker;
    }
