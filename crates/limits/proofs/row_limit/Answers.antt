-- None of the list's numbers is above 314.
use Rattle.std.proofs.Common.{ℕ, ◌≤◌, ◌<◌, get_or, arith}
use Rattle.std.proofs.lemmas.Bool.Decides.{nat_tests}
use borrow.Enum.Match.{each_below}
use Rattle.limits.specs.FlatTable.{flat_table, place}
use Rattle.limits.proofs.row_limit.Goals as goal

small : (p : ℕ) → p < 26 → get_or flat_table p 0 ≤ 314
small = each_below 26 (λ p. get_or flat_table p 0 ≤ 314) (omega arith)

pub overflow_mul-limit-2 : goal.overflow_mul-limit-2
overflow_mul-limit-2 c = omega (arith, small)

pub returns-clause-range : goal.returns-clause-range
returns-clause-range c = grind (arith, nat_tests, small (place c.args.row c.args.service) (omega arith))
