-- The whole roots lie on either side of the root, next to it, and nothing else does.
-- Assumes nothing.
use mathlib.Core.Path.{◌≡◌}
use mathlib.Core.Bool.{Bool, true, false}
use Prim.Native.Nat.{ℕ, suc, ◌+◌, ◌-◌, ◌*◌, ◌≤◌, ◌<◌}
use native.Mathlib.Nat.{le_trans, lt_of_le_of_lt, lt_of_not-le, not-le_of_lt}
use native.Mathlib.Omega.{arith}
use lib.Dec.{leb}
use borrow.Author.Tests.{le-leb, leb-true, leb-false}
use Rattle.fractions.specs.Fraction.{Fraction}
use Rattle.roots.specs.Root.{floor_root, ceiling_root}
use Rattle.roots.proofs.Least.{largest_passes, least_before, least_passes}
use Rattle.roots.proofs.Squares.{square_le, root_lt, self_le}

module _ (p : Fraction) (pos : 0 < p.den) where
  floor_tests : (leb (floor_root p * floor_root p * p.den) p.num ≡ true) × ((x : ℕ) → floor_root p < x → x ≤ p.num → leb (x * x * p.den) p.num ≡ false)
  unfolding floor_root
  floor_tests = largest_passes (λ r. leb (r * r * p.den) p.num) p.num (le-leb (0 * 0 * p.den) p.num (omega arith))

  ceiling_tests : (leb p.num (ceiling_root p * ceiling_root p * p.den) ≡ true) × ((x : ℕ) → x < ceiling_root p → leb p.num (x * x * p.den) ≡ false)
  unfolding ceiling_root
  ceiling_tests =
      let test : ℕ → Bool = λ r. leb p.num (r * r * p.den) in
      (least_passes test p.num (le-leb p.num (p.num * p.num * p.den) (self_le p.num pos)), least_before test p.num)

  pub floor_root_below : floor_root p * floor_root p * p.den ≤ p.num
  floor_root_below = leb-true _ _ floor_tests.0

  pub below_next_root : p.num < (floor_root p + 1) * (floor_root p + 1) * p.den
  below_next_root =
      lt_of_not-le (λ le. not-le_of_lt (leb-false _ _ (floor_tests.1 (floor_root p + 1) (omega arith) (le_trans (self_le (floor_root p + 1) pos) le))) le)

  pub ceiling_root_above : p.num ≤ ceiling_root p * ceiling_root p * p.den
  ceiling_root_above = leb-true _ _ ceiling_tests.0

  pub above_previous_root : 0 < ceiling_root p → (ceiling_root p - 1) * (ceiling_root p - 1) * p.den < p.num
  above_previous_root some = leb-false _ _ (ceiling_tests.1 (ceiling_root p - 1) (omega arith))

  -- no other number has these properties
  pub floor_root_is : (n : ℕ) → n * n * p.den ≤ p.num → p.num < (n + 1) * (n + 1) * p.den → n ≡ floor_root p
  floor_root_is n low next =
      let up : n < floor_root p + 1 = root_lt p.den (lt_of_le_of_lt low below_next_root) in
      let down : floor_root p < n + 1 = root_lt p.den (lt_of_le_of_lt floor_root_below next) in
      omega arith

  pub ceiling_root_is : (n : ℕ) → p.num ≤ n * n * p.den → ((x : ℕ) → x < n → x * x * p.den < p.num) → n ≡ ceiling_root p
  ceiling_root_is n high before =
      let up : n < suc (ceiling_root p) = lt_of_not-le (λ lt. not-le_of_lt (before (ceiling_root p) lt) ceiling_root_above) in
      let down : ceiling_root p < suc n = lt_of_not-le (λ lt. not-le_of_lt (above_previous_root (omega arith)) (le_trans high (square_le p.den (omega arith)))) in
      omega arith
