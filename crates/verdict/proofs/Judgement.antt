-- The verdict of a thickness is true of the exact equation, on every cutting.
-- Assumes nothing.
use mathlib.Core.Path.{◌≡◌, refl}
use mathlib.Core.Bool.{Bool, true, false, cond}
use Prim.Native.Nat.{ℕ, ◌*◌, ◌≤◌, ◌<◌}
use native.Mathlib.Nat.{le_refl}
use native.Mathlib.Omega.{arith}
use lib.Dec.{leb, ltb}
use borrow.Author.Tests.{leb-true, ltb-true}
use Rattle.fractions.specs.declared.Bounds.{Bounds}
use Rattle.fractions.specs.Fraction.{Fraction, ◌over◌, ◌≼◌}
use Rattle.lengths.specs.declared.units.Thickness.{Thickness}
use Rattle.lengths.specs.Ladder.{thickness_at}
use Rattle.quadrature.specs.Cuttings.{lower_sum, upper_sum}
use Rattle.line.specs.declared.Line.{Line}
use Rattle.verdict.specs.declared.Verdict.{Verdict}
use Rattle.verdict.specs.declared.Verdict.TheVariants.{Sufficient, Insufficient, Undecided}
use Rattle.provision.specs.Provided.{provided}
use Rattle.requirement.specs.Required.Requirement.{root}
use Rattle.requirement.specs.Required.{enclosing}
use Rattle.requirement.specs.Exact.{Meets, Misses}
use Rattle.requirement.specs.Criterion.{Criterion, MeetsBy, MissesBy, IsFraction}
use Rattle.requirement.specs.Criterion.Criterion.{enclosed, squared, unattainable}
use Rattle.verdict.specs.Verdict.{judged, judged_by, verdict_of}
use Rattle.provision.specs.Exact.{provided_exactly}
use Rattle.requirement.proofs.Requirements.{meets_more, misses_less, never_both, upper_meets, lower_misses}
use Rattle.provision.proofs.Enclosure.{lower_provided_den, upper_provided_den, provided_below, provided_above, provided_grows}
use Rattle.verdict.proofs.FirstRung.{Sound}

-- what a verdict tells, where p is provided and q required
abbrev Told : Type 0 → Type 0 → Verdict → Type 0
Told meets misses Sufficient = meets
Told meets misses Insufficient = misses
Told meets misses Undecided = Unit {0}

told_bounds : (meets misses : Type 0) (p q : Bounds) → (q.upper ≤ p.lower → meets) → (p.upper < q.lower → misses) → Told meets misses (judged p q)
told_bounds meets misses p q above below = go (leb q.upper p.lower) (ltb p.upper q.lower) refl refl
  where
    go : (a b : Bool) → leb q.upper p.lower ≡ a → ltb p.upper q.lower ≡ b → Told meets misses (cond a Sufficient (cond b Insufficient Undecided))
    go true b e f = above (leb-true _ _ e)
    go false true e f = below (ltb-true _ _ f)
    go false false e f = tt

-- what a verdict tells of what is provided, read exactly
told : (c : Criterion) (p : Bounds) → IsFraction c → Told (MeetsBy c (p.lower over 1)) (MissesBy c (p.upper over 1)) (judged_by p c)
unfolding Meets Misses
told (enclosed q) p proper = told_bounds _ _ p (enclosing q) (upper_meets q proper) (lower_misses q proper)
told (squared q) p proper =
    told_bounds (Meets (root q) (p.lower over 1)) (Misses (root q) (p.upper over 1)) (record { lower = p.lower * p.lower * q.den; upper = p.upper * p.upper * q.den }) (record { lower = q.num; upper = q.num })
    (λ le. omega (arith, le)) (λ lt. omega (arith, lt))
told unattainable p proper = tt

more_meets : (c : Criterion) (p h : Fraction) → 0 < p.den → p ≼ h → MeetsBy c p → MeetsBy c h
more_meets (enclosed q) p h pos le m = meets_more q p h pos le m
more_meets (squared q) p h pos le m = meets_more (root q) p h pos le m
more_meets unattainable p h pos le m = m

less_misses : (c : Criterion) (p h : Fraction) → 0 < p.den → p ≼ h → MissesBy c h → MissesBy c p
less_misses (enclosed q) p h pos le x = misses_less q p h pos le x
less_misses (squared q) p h pos le x = misses_less (root q) p h pos le x
less_misses unattainable p h pos le x = tt

apart : (c : Criterion) (h : Fraction) → MeetsBy c h → MissesBy c h → ⊥
apart (enclosed q) h m x = never_both q h m x
apart (squared q) h m x = never_both (root q) h m x
apart unattainable h m x = m

-- the exact readings of the rung r of the line l, where each thickness has a criterion, on the cutting m
abbrev pub MeetsOn : ℕ → Line → (Thickness → Criterion) → ℕ → Type 0
MeetsOn m l criterion r = let k = thickness_at r in MeetsBy (criterion k) (provided_exactly (lower_sum m) l k)

abbrev pub MissesOn : ℕ → Line → (Thickness → Criterion) → ℕ → Type 0
MissesOn m l criterion r = let k = thickness_at r in MissesBy (criterion k) (provided_exactly (upper_sum m) l k)

module _ (l : Line) (criterion : Thickness → Criterion) (proper : (k : Thickness) → IsFraction (criterion k)) (m : ℕ) (hα : 1 ≤ l.coefficient) (hD : 1 ≤ l.diameter.0) (hm : 1 ≤ m) where
  -- a rung that meets does not miss, nor does one above it with the same criterion
  pub meets_stays : (i j : ℕ) → i ≤ j → criterion (thickness_at i) ≡ criterion (thickness_at j) → MeetsOn m l criterion i → MissesOn m l criterion j → ⊥
  meets_stays i j le same meets misses =
      let more = provided_grows l m hα hD hm {j = thickness_at i} {k = thickness_at j} (omega arith) in
      apart (criterion (thickness_at j)) _ (more_meets (criterion (thickness_at j)) _ _ (lower_provided_den l m hα hD hm (thickness_at i)) more (rw same at meets)) misses

  pub sound : Sound (verdict_of l criterion) (MeetsOn m l criterion) (MissesOn m l criterion)
  sound =
      record {
        meets = λ r e. more_meets (criterion (thickness_at r)) _ _ (omega arith) (provided_below l m hα hD hm (thickness_at r)) (rw e at (verdict_told r));
        misses = λ r e. less_misses (criterion (thickness_at r)) _ _ (upper_provided_den l m hα hD hm (thickness_at r)) (provided_above l m hα hD hm (thickness_at r)) (rw e at (verdict_told r));
        apart = λ r. meets_stays r r (le_refl r) refl;
      }
    where
      verdict_told : (r : ℕ) → let c = criterion (thickness_at r) in let p = provided l (thickness_at r) in Told (MeetsBy c (p.lower over 1)) (MissesBy c (p.upper over 1)) (verdict_of l criterion r)
      verdict_told r = told (criterion (thickness_at r)) (provided l (thickness_at r)) (proper (thickness_at r))
