-- What goal 6 gives, by what goal 1 gives for the same fields.
-- Assumes nothing.
use mathlib.Core.Path.{◌≡◌, refl, sym, ap, ◌∙◌}
use mathlib.Core.Bool.{Bool, cond}
use mathlib.Core.Logic.{◌⊎◌, inl, inr}
use mathlib.Mathlib.Data.Bool.Basic.{dichotomy}
use mathlib.Core.List.{List, ◌∷◌, ◌++◌}
use Prim.Native.Nat.{ℕ}
use lib.Dec.{eqb}
use lib.ListN.{get_or}
use Rattle.kinds.specs.declared.Kind.TheVariants.{Standard}
use Rattle.std.specs.Prelude.{Option, Some, None}
use Rattle.lengths.specs.Ladder.{thickness_at}
use Rattle.refusals.specs.Cases.{Case, NoneHolds}
use Rattle.refusals.specs.Response.{refused, complete, respond}
use Rattle.refusals.proofs.Response.{from_front, completed}
use Rattle.big_endian.specs.Bytes.{big_endian}
use Rattle.provision.specs.Provided.{provided}
use Rattle.verdict.specs.declared.Verdict.{Verdict}
use Rattle.verdict.specs.declared.Verdict.TheVariants.{Sufficient, Insufficient, Undecided}
use Rattle.answer.specs.Answer.{loss_code}
use Rattle.sheet.specs.declared.fields.Sheet.{Sheet}
use Rattle.sheet.specs.Sheet.{decoded, decoded_as, goal_of}
use Rattle.sheet.specs.Fields.{first_fault}
use Rattle.sheet.specs.Checks.{loss_check, surface_check}
use Rattle.sheet.specs.Passes.{succeeds, first_check, check_between}
use Rattle.sheet.specs.Answer.{answer_of, surface_bound, answer}
use Rattle.sheet.specs.Refusals.{field_cases, ladder_cases, cases, response_to}
use Rattle.sheet.proofs.Ladder.{first_decided}
use Rattle.sheet.proofs.Passes.{unchecked}
use Rattle.demands.specs.Demands.{AnswerTo, Found}
use Rattle.demands.specs.Demands.Eighteen.{check_too_close}
use Rattle.demands.proofs.Passes.{found, found_first, found_succeeds, checked}
use Rattle.demands.proofs.Sheets.{none_parts, sheet_demand_2}

-- a check by its code
check_by : ℕ → Option Verdict
check_by n = cond (eqb n 0) (Some Sufficient) (cond (eqb n 1) (Some Insufficient) (cond (eqb n 2) (Some Undecided) None))

check_back : (c : Option Verdict) → check_by (loss_code c) ≡ c
unfolding check_by
check_back (Some Sufficient) = refl
check_back (Some Insufficient) = refl
check_back (Some Undecided) = refl
check_back None = refl

module _ (rest : List ℕ) where
  abbrev s₁ : Sheet
  s₁ = decoded (1 ∷ rest)

  abbrev s₆ : Sheet
  s₆ = decoded (6 ∷ rest)

  pub same_fields : field_cases (6 ∷ rest) ≡ field_cases (1 ∷ rest)
  unfolding big_endian decoded_as first_fault
  same_fields = refl

  -- where no check sends goal 6 into a second pass, it gives what goal 1 gives
  as_1 : (c : Option Verdict) → check_between s₆ ≡ c → (c ≡ None) ⊎ (c ≡ Some Sufficient) → response_to (6 ∷ rest) ≡ response_to (1 ∷ rest)
  unfolding respond big_endian decoded_as first_fault check_between loss_check surface_check answer_of surface_bound
  as_1 c is (inl e) = rw (is, e) refl
  as_1 c is (inr e) = rw (is, e) refl

  pub refused_alike : (n : ℕ) → response_to (1 ∷ rest) ≡ refused n → response_to (6 ∷ rest) ≡ refused n
  unfolding big_endian decoded_as check_between
  refused_alike n h =
      elim (dichotomy (succeeds s₁ (goal_of s₁))) [
        | inr t ↦
            let f = found s₁ (goal_of s₁) t in
            let is = found_first s₁ (goal_of s₁) f in
            let given = first_decided s₁ (answer (1 ∷ rest)) (rw is f.on_ladder) (rw (is, f.sufficient)) in
            ap (λ (cs : List Case). respond (cs ++ ladder_cases s₆) (answer (6 ∷ rest))) same_fields
            ∙ from_front n (field_cases (1 ∷ rest)) (ladder_cases s₁) (ladder_cases s₆) _ (answer (6 ∷ rest)) given h
        | inl e ↦ as_1 None (unchecked s₆ e) (inl refl) ∙ h
      ]

  -- the goal 1 sheet being answered
  module _ (bytes : List ℕ) (h : response_to (1 ∷ rest) ≡ complete bytes) where
    got : AnswerTo s₁ bytes
    got = (sheet_demand_2 Standard (1 ∷ rest)).answered bytes h

    found_1 : Found s₁ (goal_of s₁)
    unfolding big_endian decoded_as check_between
    found_1 = got.found

    check : get_or bytes 4 0 ≡ loss_code (check_between s₆)
    unfolding found_1 big_endian decoded_as check_between loss_check
    check =
        got.loss ∙ ap loss_code (
        ap (λ (r : ℕ). loss_check s₁ (provided s₁.line (thickness_at r))) (sym (found_first s₁ (goal_of s₁) found_1))
        ∙ ap (λ (b : Bool). cond b (first_check s₆) None) (sym (found_succeeds s₁ (goal_of s₁) found_1)))

    check_is : (n : ℕ) → get_or bytes 4 0 ≡ n → check_between s₆ ≡ check_by n
    check_is n e = sym (check_back (check_between s₆)) ∙ ap check_by (sym check ∙ e)

    pub no_fault : NoneHolds (field_cases (1 ∷ rest))
    no_fault = (none_parts (field_cases (1 ∷ rest)) (ladder_cases s₁) (completed (cases (1 ∷ rest)) (answer (1 ∷ rest)) bytes h).0).0

    pub within : (get_or bytes 4 0 ≡ 0) ⊎ (get_or bytes 4 0 ≡ 3) → response_to (6 ∷ rest) ≡ complete bytes
    unfolding check_by
    within (inl e) = as_1 (Some Sufficient) (check_is 0 e) (inr refl) ∙ h
    within (inr e) = as_1 None (check_is 3 e) (inl refl) ∙ h

    pub close : get_or bytes 4 0 ≡ 2 → response_to (6 ∷ rest) ≡ refused 18
    unfolding check_by
    close e = (sheet_demand_2 Standard (6 ∷ rest)).eighteen.1 (rw same_fields no_fault, check_too_close (checked s₆ Undecided (check_is 2 e)))

    pub check_over : get_or bytes 4 0 ≡ 1 → check_between s₆ ≡ Some Insufficient
    unfolding check_by
    check_over = check_is 1
