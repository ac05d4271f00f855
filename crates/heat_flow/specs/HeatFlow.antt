-- The direction in which heat flows between a pipe and the air, and what differs by it. 01 has hot lines, 02, N4, cold ones.
-- Assumes nothing.
use Rattle.std.specs.Prelude.{ℕ, ◌+◌, ◌-◌, min, max, Bool, ltb}
use Rattle.temperatures.specs.declared.Temperature.{Temperature}
use Rattle.temperatures.specs.Temperature.{zero_degrees}
use Rattle.heat_flow.specs.declared.HeatFlow.{HeatFlow}
use Rattle.heat_flow.specs.declared.HeatFlow.TheVariants.{Outward, Inward}

-- the least t, in the count of temperatures: "−500" (01), and on a cold line "down to −1,960" (02, N4)
abbrev pub least_temperature : HeatFlow → ℕ
least_temperature Outward = zero_degrees - 500
least_temperature Inward = zero_degrees - 1_960

-- x lies beyond y, as seen from the air: it is above y where heat flows outward, below y where it flows inward
abbrev pub beyond : HeatFlow → Temperature → Temperature → Bool
beyond Outward x y = ltb y.0 x.0
beyond Inward x y = ltb x.0 y.0

-- how far x lies beyond the air: "Δ = t − ta; s = aim − ta" (01); "Δ becomes ta − t", "s = ta − aim" (02, N4)
abbrev pub temperature_difference : HeatFlow → Temperature → Temperature → ℕ
temperature_difference Outward x ta = x.0 - ta.0
temperature_difference Inward x ta = ta.0 - x.0

-- "ta plus" a quotient "rounded up", q, "and never above t" (01); "ta minus the quotient rounded up, and never below t" (02, N4)
abbrev pub bounded : HeatFlow → (t ta : Temperature) → ℕ → Temperature
bounded Outward t ta q = record { 0 = min t.0 (ta.0 + q) }
bounded Inward t ta q = record { 0 = max t.0 (ta.0 - q) }
