-- What is promised of goal 7, beside the demands and `SurfaceBound`, which speak of every goal. 02, N6: "The price of the jacket."
-- Assumes nothing.
use Rattle.std.specs.Prelude.{ℕ, ◌+◌, ◌*◌, ◌≤◌, ◌<◌, ◌≡◌, false, ◌↔◌, List, ◌∷◌, ◌++◌, [], get_or, length}
use Rattle.fractions.specs.declared.Bounds.{Bounds}
use Rattle.fractions.specs.Fraction.{Fraction}
use Rattle.lengths.specs.declared.units.Thickness.{Thickness}
use Rattle.lengths.specs.Units.{outer_diameter}
use Rattle.line.specs.declared.Line.{Line}
use Rattle.requirement.specs.declared.EconomyTerms.{EconomyTerms}
use Rattle.requirement.specs.declared.Goal.{Goal}
use Rattle.requirement.specs.Required.Requirement.{root}
use Rattle.requirement.specs.Exact.{Meets, Misses}
use Rattle.requirement.specs.Criterion.{MeetsBy, MissesBy}
use Rattle.requirement.specs.Criterion.Criterion.{enclosed}
use Rattle.verdict.specs.declared.Verdict.TheVariants.{Insufficient}
use Rattle.verdict.specs.Verdict.{judged_by_squares, judged_by}
use Rattle.jacket.specs.Jacket.{jacketed}
use Rattle.jacket.specs.Cleared.{cleared}
use Rattle.refusals.specs.Response.{complete}
use Rattle.sheet.specs.declared.fields.Sheet.{Sheet}
use Rattle.sheet.specs.Search.{requirement_of, criterion_of}
use Rattle.sheet.specs.Refusals.{field_cases, response_to}

-- "Fractions are cleared first": of a line with a jacket, and a thickness k
pub record Cleared (l : Line) (Δ : ℕ) (e : EconomyTerms) (aim : ℕ) (k : Thickness) : Type 0 where
  -- "A rung meets when the square of under-have is at or above that difference times the exact square of need. It misses when the square of
  -- over-have is below it.", in whole numbers, p being the bounds of have
  pub figures :
      let E = outer_diameter l.diameter k in
      (d : ℕ) → 0 < d → d + 200 * l.conductivity ≡ l.coefficient * E.0 → (p : Bounds) → judged_by p (jacketed l Δ e aim k) ≡ judged_by_squares p (cleared l Δ e aim E d)
  -- and the same read exactly
  pub exactly :
      let E = outer_diameter l.diameter k in
      (d : ℕ) → 0 < d → d + 200 * l.conductivity ≡ l.coefficient * E.0 → (have : Fraction) →
      (MeetsBy (jacketed l Δ e aim k) have ↔ Meets (root (cleared l Δ e aim E d)) have) × (MissesBy (jacketed l Δ e aim k) have ↔ Misses (root (cleared l Δ e aim E d)) have)
  -- "A rung where the difference is not positive misses, exactly read as well.", whatever it provides, and does not meet
  pub not_positive :
      let E = outer_diameter l.diameter k in
      l.coefficient * E.0 ≤ 200 * l.conductivity →
      ((p : Bounds) → judged_by p (jacketed l Δ e aim k) ≡ Insufficient) × ((have : Fraction) → MissesBy (jacketed l Δ e aim k) have × (MeetsBy (jacketed l Δ e aim k) have → ⊥))

pub record JacketPrice : Type 0 where
  pub fractions_cleared : (l : Line) (Δ : ℕ) (e : EconomyTerms) (aim : ℕ) (k : Thickness) → Cleared l Δ e aim k
  -- "Goal 7 takes it for cylinders": byte 1 is 1; that byte 0 is 0 says `goal_6_only`, of `WithinLimit`
  pub cylinders : (sheet bytes : List ℕ) → get_or sheet 0 0 ≡ 7 → response_to sheet ≡ complete bytes → get_or bytes 1 0 ≡ 1
  -- "the jacket price in yuan/m² in the aim field, 0 to 65,535": no case of the fields depends on it
  pub any_price : (front : List ℕ) → length front ≡ 21 → (a b a' b' : ℕ) → field_cases (7 ∷ front ++ (a ∷ b ∷ [])) ≡ field_cases (7 ∷ front ++ (a' ∷ b' ∷ []))
  -- under any other goal the same is required at every thickness, as before
  pub others : (s : Sheet) (goal : Goal) → s.counts_jacket ≡ false → (k : Thickness) → criterion_of s goal k ≡ enclosed (requirement_of s goal)
