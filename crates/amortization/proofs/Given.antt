-- A rate and a term that are not outside their ranges, and a share that is given: it is the exact one, and may stand on a sheet.
-- Assumes nothing.
use mathlib.Core.Path.{◌≡◌}
use mathlib.Core.Bool.{false, ◌||◌}
use mathlib.Core.List.{List, [], ◌∷◌}
use Prim.Native.Nat.{ℕ, ◌≤◌}
use native.Mathlib.Omega.{arith}
use borrow.Author.Tests.{eqb-true, not-false}
use Rattle.std.proofs.lemmas.Bool.{or_parts, or_from}
use Rattle.fractions.specs.Rounding.{floor}
use Rattle.refusals.specs.Cases.{NoneHolds}
use Rattle.refusals.specs.Range.{outside}
use Rattle.refusals.specs.Response.{complete}
use Rattle.refusals.proofs.Range.{inside}
use Rattle.refusals.proofs.Response.{completed}
use Rattle.amortization.specs.Share.{share_by, exact_share}
use Rattle.amortization.specs.Ranges.{InRange}
use Rattle.amortization.specs.Refusals.{cases, share_response}
use Rattle.amortization.proofs.Enclosure.{share_exact, share_least, share_most}

pub in_range : (i n : ℕ) → (outside i 1 3_000 || outside n 2 30) ≡ false → InRange i n
in_range i n e =
    let parts = or_parts (outside i 1 3_000) (outside n 2 30) e in
    let rate = inside i 1 3_000 parts.0 in
    let term = inside n 2 30 parts.1 in
    record { rate_least = rate.0; rate_most = rate.1; term_least = term.0; term_most = term.1 }

-- and so the share by the growth rounded down fits two bytes
pub share_fits : (i n : ℕ) → outside i 1 3_000 ≡ false → outside n 2 30 ≡ false → share_by floor i n ≤ 10_000
share_fits i n rate term = share_most i n (in_range i n (or_from _ _ rate term))

-- Where a share is given, no case holds: the rate and the term are in range, and the ends round to the exact share.
module _ (i n : ℕ) (given : List ℕ) (answered : share_response i n ≡ complete given) where
  abbrev none : NoneHolds (cases i n) × ((share_by floor i n ∷ []) ≡ given)
  none = completed (cases i n) (share_by floor i n ∷ []) given answered

  ranges : InRange i n
  unfolding NoneHolds
  ranges = in_range i n none.0.0

  pub given_exact : given ≡ (exact_share i n ∷ [])
  unfolding NoneHolds
  given_exact = cc (none.1, share_exact i n ranges.rate_least (omega (arith, ranges)) (eqb-true _ _ (not-false _ none.0.1.0)))

pub on_a_sheet : (i n s : ℕ) → share_response i n ≡ complete (s ∷ []) → (1 ≤ s) × (s ≤ 10_000)
on_a_sheet i n s answered =
    let h = ranges i n (s ∷ []) answered in
    let given : share_by floor i n ≡ s = cc (none i n (s ∷ []) answered).1 in
    (rw given at (share_least i n h), rw given at (share_most i n h))
