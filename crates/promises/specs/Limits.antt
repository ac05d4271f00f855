-- What is promised of the loss limits between the printed rows. 02, N2.
-- Assumes nothing.
use Rattle.std.specs.Prelude.{ℕ, suc, ◌+◌, ◌*◌, ◌≤◌, ◌<◌, ◌≡◌}
use Rattle.std.proofs.Math.Option.{some}
use Rattle.temperatures.specs.declared.Temperature.{Temperature}
use Rattle.temperatures.specs.Temperature.{tenths_celsius}
use Rattle.limits.specs.Limits.{Row, row_at, limit_of, loss_limit}

-- "The row is the highest one not above t." (01)
pub record HighestNotAbove (t : Temperature) (r : Row) : Type 0 where
  pub in_table : (i : ℕ) × (row_at i ≡ some r)
  pub not_above : r.temperature.0 ≤ t.0
  pub highest : (i : ℕ) (other : Row) → row_at i ≡ some other → other.temperature.0 ≤ t.0 → other.temperature.0 ≤ r.temperature.0

-- two neighbouring rows, from one to the next, that both have a limit
pub record Neighbouring (service : ℕ) (low high : Row) : Type 0 where
  pub in_table : (i : ℕ) × (row_at i ≡ some low) × (row_at (suc i) ≡ some high)
  pub low_printed : 0 < limit_of service low
  pub high_printed : 0 < limit_of service high

-- a service has limits from 50.0 °C to a temperature, and none below 50.0 °C
pub record LimitedTo (service : ℕ) (most : Temperature) : Type 0 where
  pub printed : (t : Temperature) → (tenths_celsius 500).0 ≤ t.0 → t.0 ≤ most.0 → 0 < loss_limit service t
  pub none_below : (t : Temperature) → t.0 < (tenths_celsius 500).0 → loss_limit service t ≡ 0

-- a service has none above a temperature
abbrev pub NoneAbove : ℕ → Temperature → Type 0
NoneAbove service most = (t : Temperature) → most.0 < t.0 → loss_limit service t ≡ 0

pub record Limits : Type 0 where
  -- "Services 1 and 2 keep the row below"
  pub row_below : (t : Temperature) (r : Row) → HighestNotAbove t r → (loss_limit 1 t ≡ 10 * r.year_round) × (loss_limit 2 t ≡ 10 * r.seasonal)
  -- at the temperature of a row every service has the row's limit
  pub at_row : (service i : ℕ) (r : Row) → row_at i ≡ some r → loss_limit service r.temperature ≡ limit_of service r
  -- "a straight line between neighbouring rows", "rounded down", for services 3 and 4: at b tenths of a degree above one row and a below the
  -- next, the rows being 50.0 °C apart
  pub straight_line :
      (service : ℕ) (low high : Row) (t : Temperature) (a b : ℕ) → 3 ≤ service → service ≤ 4 → Neighbouring service low high →
      t.0 ≡ low.temperature.0 + b → high.temperature.0 ≡ t.0 + a → 0 < a →
      let line = limit_of service low * a + limit_of service high * b in
      (500 * loss_limit service t ≤ line) × (line < 500 * (loss_limit service t + 1))
  -- between two neighbouring rows the limit lies between theirs
  pub between :
      (service : ℕ) (low high : Row) (t : Temperature) → Neighbouring service low high → low.temperature.0 ≤ t.0 → t.0 < high.temperature.0 →
      (limit_of service low ≤ loss_limit service t) × (loss_limit service t ≤ limit_of service high)
  -- "Below 50.0, or seasonal from 450.0, none is printed." (01) "Seasonal at 400.0 gives 314; above it none is printed."
  pub all_year : LimitedTo 1 (tenths_celsius 6_500)
  pub seasonal : LimitedTo 2 (tenths_celsius 4_499) × NoneAbove 2 (tenths_celsius 4_499)
  pub year_round_interpolated : LimitedTo 3 (tenths_celsius 6_500)
  pub seasonal_interpolated : LimitedTo 4 (tenths_celsius 4_000) × NoneAbove 4 (tenths_celsius 4_000)
