-- A temperature beyond the air's differs from it; one that the pipe lies beyond differs from the air's by no more than the pipe's; how far
-- a bound lies beyond the air.
-- Assumes nothing.
use mathlib.Core.Path.{◌≡◌}
use mathlib.Core.Bool.{true}
use Prim.Native.Nat.{ℕ, ◌+◌, ◌≤◌, ◌<◌, min}
use native.Mathlib.Omega.{arith}
use borrow.Author.Tests.{ltb-true}
use Rattle.temperatures.specs.declared.Temperature.{Temperature}
use Rattle.heat_flow.specs.declared.HeatFlow.{HeatFlow}
use Rattle.heat_flow.specs.declared.HeatFlow.TheVariants.{Outward, Inward}
use Rattle.heat_flow.specs.HeatFlow.{beyond, temperature_difference, bounded}

pub differs : (f : HeatFlow) (x ta : Temperature) → beyond f x ta ≡ true → 1 ≤ temperature_difference f x ta
differs Outward x ta e = omega (arith, ltb-true ta.0 x.0 e)
differs Inward x ta e = omega (arith, ltb-true x.0 ta.0 e)

pub no_more : (f : HeatFlow) (t x ta : Temperature) → beyond f t x ≡ true → temperature_difference f x ta ≤ temperature_difference f t ta
no_more Outward t x ta e = omega (arith, ltb-true x.0 t.0 e)
no_more Inward t x ta e = omega (arith, ltb-true t.0 x.0 e)

-- b lies x beyond the air
abbrev pub LiesBeyondBy : HeatFlow → Temperature → ℕ → Temperature → Type 0
LiesBeyondBy Outward ta x b = b.0 ≡ ta.0 + x
LiesBeyondBy Inward ta x b = b.0 + x ≡ ta.0

pub bound_beyond : (f : HeatFlow) (t ta : Temperature) (q : ℕ) → 1 ≤ temperature_difference f t ta → LiesBeyondBy f ta (min (temperature_difference f t ta) q) (bounded f t ta q)
bound_beyond Outward t ta q some = omega arith
bound_beyond Inward t ta q some = omega arith

pub bound_fits : (f : HeatFlow) (t ta : Temperature) (q : ℕ) {n : ℕ} → t.0 < n → ta.0 < n → (bounded f t ta q).0 < n
bound_fits Outward t ta q pipe air = omega arith
bound_fits Inward t ta q pipe air = omega arith
