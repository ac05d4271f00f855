-- A requirement and the whole numbers that enclose it: what is at or above the upper one meets it, what is below the lower one misses it.
-- Assumes nothing.
use Prim.Native.Nat.{ℕ, ◌≤◌, ◌<◌}
use native.Mathlib.Nat.{mul-pos, mul-le-mul, mul-le-mul_right, lt_of_not-le, not-le_of_lt}
use native.Mathlib.Omega.{arith}
use Rattle.fractions.specs.Fraction.{Fraction, ◌over◌, ◌≼◌}
use Rattle.fractions.proofs.Order.{≼_trans}
use Rattle.fractions.proofs.Rounding.{floor_below, ceiling_above}
use Rattle.roots.proofs.Roots.{floor_root_below, ceiling_root_above}
use Rattle.line.specs.declared.Line.{Line}
use Rattle.requirement.specs.declared.Goal.{Goal}
use Rattle.requirement.specs.declared.Goal.TheVariants.{Economy, Loss, Surface}
use Rattle.line.specs.Range.{LineInRange}
use Rattle.requirement.specs.Ranges.{GoalInRange}
use Rattle.requirement.specs.Required.{Requirement, requirement, enclosing}
use Rattle.requirement.specs.Required.Requirement.{ratio, root}
use Rattle.requirement.specs.Exact.{square, Meets, Misses, denominator}

pub meets_more : (q : Requirement) (p h : Fraction) → 0 < p.den → p ≼ h → Meets q p → Meets q h
unfolding Meets
meets_more (ratio n) p h pos le m = ≼_trans n p h pos m le
meets_more (root n) p h pos le m = ≼_trans n (square p) (square h) (mul-pos pos pos) m (omega (arith, mul-le-mul le le))

pub never_both : (q : Requirement) (h : Fraction) → Meets q h → Misses q h → ⊥
unfolding Meets Misses
never_both (ratio n) h m x = not-le_of_lt x m
never_both (root n) h m x = not-le_of_lt x m

pub misses_unless : (q : Requirement) (h : Fraction) → (Meets q h → ⊥) → Misses q h
unfolding Meets Misses
misses_unless (ratio n) h = lt_of_not-le
misses_unless (root n) h = lt_of_not-le

pub misses_less : (q : Requirement) (p h : Fraction) → 0 < p.den → p ≼ h → Misses q h → Misses q p
misses_less q p h pos le x = misses_unless q p (λ m. never_both q h (meets_more q p h pos le m) x)

pub upper_meets : (q : Requirement) {v : ℕ} → 0 < denominator q → (enclosing q).upper ≤ v → Meets q (v over 1)
unfolding Meets enclosing
upper_meets (ratio p) pos le = omega (arith, ceiling_above p pos, mul-le-mul_right p.den le)
upper_meets (root p) pos le = omega (arith, ceiling_root_above p pos, mul-le-mul_right p.den (mul-le-mul le le))

pub lower_misses : (q : Requirement) {v : ℕ} → 0 < denominator q → v < (enclosing q).lower → Misses q (v over 1)
unfolding Misses enclosing
lower_misses (ratio p) pos lt = omega (arith, floor_below p, mul-le-mul_right p.den lt)
lower_misses (root p) pos lt = omega (arith, floor_root_below p pos, mul-le-mul_right p.den (mul-le-mul lt lt))

pub in_range_proper : (l : Line) (Δ : ℕ) (g : Goal) → LineInRange l → GoalInRange g → 0 < denominator (requirement l Δ g)
unfolding requirement
in_range_proper l Δ (Economy e) line terms = mul-pos terms.insulation_from terms.share_from
in_range_proper l Δ (Loss aim) line some = some
in_range_proper l Δ (Surface s) line range = mul-pos {m = l.coefficient} (omega arith) range.0
