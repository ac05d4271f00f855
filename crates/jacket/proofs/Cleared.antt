-- The criterion of a jacketed pipe with its fractions cleared: both sides multiplied by all that either is divided by, but for the outer
-- diameter, which stands on both.
-- Assumes nothing.
use mathlib.Core.Path.{◌≡◌, refl, sym, ap, ◌∙◌}
use mathlib.Core.Bool.{Bool, true, false, cond}
use mathlib.Core.Logic.{◌↔◌}
use Prim.Native.Nat.{ℕ, ◌+◌, ◌-◌, ◌*◌, ◌≤◌, ◌<◌}
use native.Mathlib.Nat.{mul-le-mul_right, mul-lt-mul_of_pos_right}
use native.Mathlib.Omega.{arith}
use lib.Dec.{leb, ltb}
use borrow.Author.Tests.{leb-true, leb-false, ltb-true, ltb-false, le-leb, lt-leb, lt-ltb, le-ltb}
use Rattle.fractions.specs.declared.Bounds.{Bounds}
use Rattle.fractions.specs.Fraction.{Fraction, ◌over◌, times}
use Rattle.lengths.specs.declared.units.Thickness.{Thickness}
use Rattle.lengths.specs.Units.{outer_diameter}
use Rattle.line.specs.declared.Line.{Line}
use Rattle.line.specs.declared.Shape.TheVariants.{Cylinder}
use Rattle.requirement.specs.declared.EconomyTerms.{EconomyTerms}
use Rattle.verdict.specs.declared.Verdict.TheVariants.{Insufficient}
use Rattle.requirement.specs.Required.{economy_squared}
use Rattle.requirement.specs.Required.Requirement.{root}
use Rattle.requirement.specs.Exact.{Meets, Misses}
use Rattle.requirement.specs.Criterion.{MeetsBy, MissesBy}
use Rattle.requirement.specs.Criterion.Criterion.{squared, unattainable}
use Rattle.verdict.specs.Verdict.{judged_by_squares, judged_by}
use Rattle.jacket.specs.Jacket.{price_with_jacket, jacketed}
use Rattle.jacket.specs.Cleared.{cleared}

-- a factor on both sides of a comparison
module _ (a b e : ℕ) (some : 0 < e) where
  same_le : leb (a * e) (b * e) ≡ leb a b
  same_le = go (leb a b) refl
    where
      go : (t : Bool) → leb a b ≡ t → leb (a * e) (b * e) ≡ t
      go true is = le-leb _ _ (mul-le-mul_right e (leb-true a b is))
      go false is = lt-leb _ _ (mul-lt-mul_of_pos_right (leb-false a b is) some)

  same_lt : ltb (a * e) (b * e) ≡ ltb a b
  same_lt = go (ltb a b) refl
    where
      go : (t : Bool) → ltb a b ≡ t → ltb (a * e) (b * e) ≡ t
      go true is = lt-ltb _ _ (mul-lt-mul_of_pos_right (ltb-true a b is) some)
      go false is = le-ltb _ _ (mul-le-mul_right e (ltb-false a b is))

  le_same : (a * e ≤ b * e) ↔ (a ≤ b)
  le_same = (λ le. leb-true a b (sym same_le ∙ le-leb _ _ le), mul-le-mul_right e)

  lt_same : (a * e < b * e) ↔ (a < b)
  lt_same = (λ lt. ltb-true a b (sym same_lt ∙ lt-ltb _ _ lt), λ lt. mul-lt-mul_of_pos_right lt some)

-- a factor in both terms of a fraction
cancelled : (p : Bounds) (a d e : ℕ) → 0 < e → judged_by_squares p ((a * e) over (d * e)) ≡ judged_by_squares p (a over d)
cancelled p a d e some =
    let lower : p.lower * p.lower * (d * e) ≡ p.lower * p.lower * d * e = omega arith in
    let upper : p.upper * p.upper * (d * e) ≡ p.upper * p.upper * d * e = omega arith in
    rw (lower, upper, same_le a (p.lower * p.lower * d) e some, same_lt (p.upper * p.upper * d) a e some)

module _ (l : Line) (Δ : ℕ) (e : EconomyTerms) (jacket : ℕ) (k : Thickness) where
  abbrev E : ℕ
  E = (outer_diameter l.diameter k).0

  abbrev outer : ℕ
  outer = l.coefficient * E

  abbrev critical : ℕ
  critical = 200 * l.conductivity

  abbrev q : Fraction
  q = cleared l Δ e jacket (outer_diameter l.diameter k) (outer - critical)

  -- the fractions of the criterion, E being on both sides
  terms : times ((outer - critical) over outer) (economy_squared Cylinder l Δ e (price_with_jacket e jacket (outer_diameter l.diameter k))) ≡ (q.num * E) over (q.den * E)
  terms = λ i. num (outer - critical) i over den i
    where
      num : (d : ℕ) → d * (14_402_025_000 * (e.heat * l.conductivity * e.hours * Δ) * (1 * E)) ≡ 14_402_025_000 * (e.heat * l.conductivity * e.hours * Δ) * d * E
      num d = omega arith

      den : outer * ((e.insulation * E + 20_000 * jacket * 1) * e.share) ≡ (e.insulation * E + 20_000 * jacket) * e.share * l.coefficient * E
      den = omega arith

  pub judged_cleared : (p : Bounds) → 0 < E → judged_by p (jacketed l Δ e jacket k) ≡ cond (leb outer critical) Insufficient (judged_by_squares p q)
  unfolding jacketed
  judged_cleared p some = go (leb outer critical)
    where
      go :
          (t : Bool) →
          judged_by p (cond t unattainable (squared (times ((outer - critical) over outer) (economy_squared Cylinder l Δ e (price_with_jacket e jacket (outer_diameter l.diameter k)))))) ≡
          cond t Insufficient (judged_by_squares p q)
      go true = refl
      go false = ap (judged_by_squares p) terms ∙ cancelled p q.num q.den E some

  -- and read exactly, above the critical diameter
  module _ (some : 0 < E) (above : critical < outer) where
    uncleared : jacketed l Δ e jacket k ≡ squared ((q.num * E) over (q.den * E))
    unfolding jacketed
    uncleared = rw (lt-leb _ _ above) (ap squared terms)

    module _ (h : Fraction) where
      -- each side of the comparison, E apart
      left : q.num * E * (h.den * h.den) ≡ q.num * (h.den * h.den) * E
      left = omega arith

      right : h.num * h.num * (q.den * E) ≡ h.num * h.num * q.den * E
      right = omega arith

      pub meets_cleared : MeetsBy (jacketed l Δ e jacket k) h ↔ Meets (root q) h
      unfolding Meets
      meets_cleared = rw (uncleared, left, right) (le_same (q.num * (h.den * h.den)) (h.num * h.num * q.den) E some)

      pub misses_cleared : MissesBy (jacketed l Δ e jacket k) h ↔ Misses (root q) h
      unfolding Misses
      misses_cleared = rw (uncleared, left, right) (lt_same (h.num * h.num * q.den) (q.num * (h.den * h.den)) E some)
