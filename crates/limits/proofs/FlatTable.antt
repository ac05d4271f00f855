-- The flat list holds the printed limits: one test of every row and service, which antt computes. Division finds the row.
-- Assumes nothing.
use mathlib.Core.Path.{◌≡◌, refl}
use mathlib.Core.Bool.{cond, ◌||◌}
use Prim.Native.Nat.{ℕ, suc, ◌+◌, ◌-◌, ◌*◌, ◌/◌, ◌%◌, ◌≤◌, ◌<◌}
use native.Mathlib.Nat.{sub-add_cancel}
use native.Mathlib.Omega.{arith}
use lib.Dec.{leb, eqb}
use lib.ListN.{get_or}
use borrow.Enum.Match.{AllBelow, each_below}
use Rattle.std.proofs.Common.{add-one}
use Rattle.temperatures.specs.declared.Temperature.{Temperature}
use Rattle.temperatures.specs.Temperature.{zero_degrees, tenths_celsius}
use Rattle.limits.specs.Limits.{column, interpolated, loss_limit}
use Rattle.limits.specs.FlatTable.{flat_table, place, Placement}
use Rattle.limits.proofs.Rows.{nth, row_indexed, row_present, limit_at_lem}

-- what the list holds for a service, counted from 0, and a row, with a blank one after the last
abbrev Held : ℕ → ℕ → Type 0
Held n row = get_or flat_table (place row (n + 1)) 0 ≡ column (n + 1) (nth row)

held : AllBelow 4 (λ n. AllBelow 14 (Held n))
held = (omega arith, (omega arith, (omega arith, (omega arith, tt))))

pub listed : (service row : ℕ) → 1 ≤ service → service ≤ 4 → row < 14 → get_or flat_table (place row service) 0 ≡ column service (nth row)
listed service row low high lt =
    rw (← sub-add_cancel low) (each_below 14 (Held (service - 1)) (each_below 4 (λ n. AllBelow 14 (Held n)) held (service - 1) (omega arith)) row lt)

pub placement : Placement
placement =
    record {
      size = refl;
      within = λ row service lt. omega arith;
      holds = λ row service r e low high. let at = row_indexed row e in rw (← at.1) (listed service row low high (omega arith));
    }

-- the limit by the numbers of the list
pub limit_is :
    (service : ℕ) (t : Temperature) → zero_degrees + 500 ≤ t.0 → (1 ≤ service) × (service ≤ 4) × (t.0 ≤ (tenths_celsius 6_500).0) →
    let past = t.0 - (zero_degrees + 500) in
    let low = 10 * get_or flat_table (place (past / 500) service) 0 in
    let high = 10 * get_or flat_table (place (past / 500 + 1) service) 0 in
    loss_limit service t ≡ cond (leb service 2 || eqb (past % 500) 0) low (interpolated low high 500 (past % 500))
limit_is service t from given =
    let n = (t.0 - (zero_degrees + 500)) / 500 in
    rw (
      limit_at_lem service t n ((t.0 - (zero_degrees + 500)) % 500) (omega arith),
      add-one n,
      placement.holds n service (nth n) (row_present n (omega arith)) given.0 given.1,
      listed service (suc n) given.0 given.1 (omega arith),
    )
