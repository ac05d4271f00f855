-- A larger loss requires less.
-- Assumes nothing.
use Prim.Native.Nat.{ℕ, ◌≤◌}
use native.Mathlib.Nat.{mul-le-mul_left}
use native.Mathlib.Omega.{arith}
use Rattle.fractions.proofs.Rounding.{floor_mono, ceiling_mono}
use Rattle.line.specs.declared.Line.{Line}
use Rattle.requirement.specs.declared.Goal.TheVariants.{Loss}
use Rattle.requirement.specs.Required.{requirement, enclosing}

module _ (l : Line) (Δ : ℕ) {a b : ℕ} (some : 1 ≤ a) (le : a ≤ b) where
  pub loss_requires_less : let less = enclosing (requirement l Δ (Loss b)) in let more = enclosing (requirement l Δ (Loss a)) in (less.lower ≤ more.lower) × (less.upper ≤ more.upper)
  unfolding requirement enclosing
  loss_requires_less = (floor_mono _ _ (omega arith) some (mul-le-mul_left _ le), ceiling_mono _ _ (omega arith) some (mul-le-mul_left _ le))
