-- What goal 6 gives after a check that is over, by what goal 2 gives for the same line.
-- Assumes nothing.
use mathlib.Core.Path.{◌≡◌, refl, sym, ap, ◌∙◌, subst}
use mathlib.Core.Bool.{Bool, true, false}
use mathlib.Core.List.{List, [], ◌∷◌, ◌++◌}
use Prim.Native.Nat.{ℕ, ◌≤◌}
use native.Mathlib.Omega.{arith}
use lib.ListN.{length, drop}
use borrow.Author.Tests.{ne_eqb}
use Rattle.std.specs.Prelude.{Some, None}
use Rattle.refusals.specs.Cases.{Case, case, NoneHolds}
use Rattle.refusals.specs.Response.{complete, respond}
use Rattle.refusals.proofs.Response.{later}
use Rattle.big_endian.specs.Bytes.{big_endian, bytes_of}
use Rattle.verdict.specs.declared.Verdict.TheVariants.{Insufficient}
use Rattle.answer.specs.Answer.{encoded}
use Rattle.limits.proofs.Size.{limit_size, some_size}
use Rattle.sheet.specs.declared.fields.Sheet.{Sheet}
use Rattle.sheet.specs.Sheet.{decoded, decoded_as}
use Rattle.sheet.specs.Fields.{codes, line_fields, economy_fields, aim_fields, first_fault}
use Rattle.sheet.proofs.FirstFault.{none_before}
use Rattle.sheet.specs.Checks.{loss_check, surface_check}
use Rattle.sheet.specs.Passes.{second_aim, check_between}
use Rattle.sheet.specs.Answer.{answer_of, surface_bound, answer}
use Rattle.sheet.specs.Refusals.{field_cases, ladder_cases, response_to}
use Rattle.sheet.proofs.Passes.{Printed, second_aim_some}
use Rattle.promises.specs.WithinLimit.{loss_sheet, with_byte_0_as_1}
use Rattle.promises.proofs.Places.{by_places, one_by_one}
use Rattle.promises.proofs.AsGoal1.{same_fields}

-- a refusal, or the same bytes but for the first
same_but_for_byte_0 : (b c : Bool) (x y : List ℕ) → x ≡ (1 ∷ drop 1 y) → respond (case 17 b ∷ case 18 c ∷ []) x ≡ with_byte_0_as_1 (respond (case 17 b ∷ case 18 c ∷ []) y)
unfolding respond
same_but_for_byte_0 true c x y e = refl
same_but_for_byte_0 false true x y e = refl
same_but_for_byte_0 false false x y e = ap complete e

-- the second pass is a search by the loss method
abbrev Over : List ℕ → Type 0
Over rest =
    let s = decoded (6 ∷ rest) in
    Printed s → check_between s ≡ Some Insufficient → NoneHolds (field_cases (1 ∷ rest)) → response_to (6 ∷ rest) ≡ with_byte_0_as_1 (response_to (loss_sheet rest (second_aim s)))

module _ (r : List ℕ) where
  -- a sheet behind its first byte
  abbrev rest : List ℕ
  unfolding by_places
  rest = by_places 23 r

  abbrev s₁ : Sheet
  s₁ = decoded (1 ∷ rest)

  abbrev s₆ : Sheet
  s₆ = decoded (6 ∷ rest)

  abbrev a : ℕ
  a = second_aim s₆

  abbrev s₂ : Sheet
  s₂ = decoded (loss_sheet rest a)

  same_line : (s₂.service ≡ s₆.service) × (s₂.line ≡ s₆.line) × (s₂.temperature ≡ s₆.temperature) × (s₂.ambient ≡ s₆.ambient)
  unfolding big_endian bytes_of decoded_as rest by_places
  same_line = (refl, refl, refl, refl)

  module _ (printed : Printed s₆) where
    aim_from : 1 ≤ a
    aim_from = second_aim_some s₆ printed

    aim_is : s₂.aim ≡ a
    unfolding big_endian bytes_of decoded_as rest by_places
    aim_is = omega (arith, (some_size (limit_size s₆.service s₆.temperature) printed).1)

    -- no case of the fields holds for the loss sheet, where none does for the sheet of goal 1
    fields_2 : NoneHolds (field_cases (1 ∷ rest)) → NoneHolds (field_cases (loss_sheet rest a))
    unfolding NoneHolds first_fault big_endian bytes_of decoded_as rest by_places
    fields_2 none =
        (refl, (none.1.0, (none_before 13 (codes s₂ ++ line_fields s₂) (economy_fields true s₁ ++ aim_fields false s₁) none.1.1.0, (refl, (none.1.1.1.1.0, (ne_eqb s₂.aim 0 (λ e. omega (arith, aim_is, aim_from, e)), (refl, tt)))))))

    none_2 : check_between s₂ ≡ None
    unfolding decoded_as check_between
    none_2 = refl

    -- the loss check being over, both sheets have the same cases of the ladder, and the same answer but for byte 0
    module _ (is : check_between s₆ ≡ Some Insufficient) where
      same_cases : ladder_cases s₆ ≡ ladder_cases s₂
      unfolding big_endian bytes_of decoded_as rest by_places
      same_cases = rw (is, none_2, aim_is) refl

      same_bytes : answer (6 ∷ rest) ≡ (1 ∷ drop 1 (answer (loss_sheet rest a)))
      unfolding big_endian bytes_of decoded_as encoded answer_of loss_check surface_check surface_bound rest by_places
      same_bytes = rw (is, none_2, aim_is) refl

  over_by_places : Over rest
  over_by_places printed is none =
      later (field_cases (6 ∷ rest)) (ladder_cases s₆) (answer (6 ∷ rest)) (rw same_fields none)
      ∙ ap (λ (cs : List Case). respond cs (answer (6 ∷ rest))) (same_cases printed is)
      ∙ same_but_for_byte_0 _ _ (answer (6 ∷ rest)) (answer (loss_sheet rest a)) (same_bytes printed is)
      ∙ ap with_byte_0_as_1 (sym (later (field_cases (loss_sheet rest a)) (ladder_cases s₂) (answer (loss_sheet rest a)) (fields_2 printed none)))

pub over_is_loss : (rest : List ℕ) → length rest ≡ 23 → Over rest
unfolding rest
over_is_loss rest len = subst Over (sym (one_by_one 23 rest len)) (over_by_places rest)
