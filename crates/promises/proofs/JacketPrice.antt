-- What is promised of goal 7.
-- Assumes nothing.
use mathlib.Core.Path.{◌≡◌, refl, sym, ap, ◌∙◌, subst}
use mathlib.Core.List.{List, [], ◌∷◌, ◌++◌}
use Prim.Native.Nat.{ℕ, ◌+◌, ◌-◌, ◌*◌, ◌<◌}
use native.Mathlib.Nat.{pos_of_ne-zero}
use native.Mathlib.Omega.{arith}
use lib.ListN.{length, get_or}
use borrow.Author.Tests.{le-leb, lt-leb}
use Rattle.kinds.specs.declared.Kind.TheVariants.{Standard}
use Rattle.lengths.specs.declared.units.Thickness.{Thickness}
use Rattle.lengths.specs.Units.{outer_diameter}
use Rattle.refusals.specs.Response.{complete}
use Rattle.big_endian.specs.Bytes.{big_endian}
use Rattle.line.specs.declared.Line.{Line}
use Rattle.line.specs.declared.Shape.TheVariants.{Cylinder}
use Rattle.line.specs.Line.{shape_of}
use Rattle.requirement.specs.declared.EconomyTerms.{EconomyTerms}
use Rattle.jacket.specs.Jacket.{jacketed}
use Rattle.jacket.proofs.Cleared.{judged_cleared, meets_cleared, misses_cleared}
use Rattle.answer.specs.Answer.{shape_code}
use Rattle.sheet.specs.Sheet.{counts_jacket, decoded, decoded_as}
use Rattle.sheet.specs.Fields.{first_fault}
use Rattle.sheet.specs.Refusals.{field_cases, response_to}
use Rattle.sheet.proofs.Criteria.{one_criterion}
use Rattle.demands.proofs.Sheets.{answered, sheet_demand_2}
use Rattle.promises.proofs.Places.{by_places, one_by_one}
use Rattle.promises.specs.JacketPrice.{Cleared, JacketPrice}

module _ (l : Line) (Δ : ℕ) (e : EconomyTerms) (aim : ℕ) (k : Thickness) where
  abbrev E : ℕ
  E = (outer_diameter l.diameter k).0

  -- what is known of αE where it exceeds 200L by d
  record Exceeds (d : ℕ) : Type 0 where
    pub some : 0 < E
    pub above : 200 * l.conductivity < l.coefficient * E
    pub by : l.coefficient * E - 200 * l.conductivity ≡ d

  exceeds : (d : ℕ) → 0 < d → d + 200 * l.conductivity ≡ l.coefficient * E → Exceeds d
  exceeds d more is =
      record {
        some = pos_of_ne-zero (λ z. omega (arith, more, is, ap (λ (n : ℕ). l.coefficient * n) z));
        above = omega (arith, more, is);
        by = omega (arith, is);
      }

  fractions_cleared : Cleared l Δ e aim k
  unfolding jacketed
  fractions_cleared =
      record {
        figures = λ d more is p. (let known = exceeds d more is in rw (judged_cleared l Δ e aim k p known.some, lt-leb _ _ known.above, known.by) refl);
        exactly = λ d more is have. (
            let known = exceeds d more is in
            rw (← known.by) (meets_cleared l Δ e aim k known.some known.above have, misses_cleared l Δ e aim k known.some known.above have)
            );
        not_positive = λ le. rw (le-leb _ _ le) (λ p. refl, λ have. (tt, λ meets. meets));
      }

module _ (sheet bytes : List ℕ) (seven : get_or sheet 0 0 ≡ 7) (h : response_to sheet ≡ complete bytes) where
  cylinder : shape_of (decoded sheet).line ≡ Cylinder
  unfolding decoded_as
  cylinder = rw (le-leb (decoded sheet).line.diameter.0 10_000 ((answered Standard sheet bytes h).0.admitted.cylinder (ap counts_jacket seven))) refl

  cylinders : get_or bytes 1 0 ≡ 1
  cylinders = ((sheet_demand_2 Standard sheet).answered bytes h).shape ∙ ap shape_code cylinder

any_price : (front : List ℕ) → length front ≡ 21 → (a b a' b' : ℕ) → field_cases (7 ∷ front ++ (a ∷ b ∷ [])) ≡ field_cases (7 ∷ front ++ (a' ∷ b' ∷ []))
unfolding big_endian decoded_as first_fault by_places
any_price front len a b a' b' =
    subst (λ (front : List ℕ). field_cases (7 ∷ front ++ (a ∷ b ∷ [])) ≡ field_cases (7 ∷ front ++ (a' ∷ b' ∷ []))) (sym (one_by_one 21 front len)) refl

pub jacket_price : JacketPrice
jacket_price = record { fractions_cleared = fractions_cleared; cylinders = cylinders; any_price = any_price; others = one_criterion }
