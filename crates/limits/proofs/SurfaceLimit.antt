-- The limit of the surface's temperature is above the air's temperature.
-- Assumes nothing.
use mathlib.Core.Path.{◌≡◌, refl}
use mathlib.Core.Bool.{Bool, true, false, cond}
use Prim.Native.Nat.{◌+◌, ◌<◌}
use native.Mathlib.Omega.{arith}
use lib.Dec.{leb}
use borrow.Author.Tests.{leb-true}
use Rattle.temperatures.specs.declared.Temperature.{Temperature}
use Rattle.temperatures.specs.Temperature.{tenths_celsius}
use Rattle.limits.specs.Limits.{surface_limit}

pub limit_above : (ta : Temperature) → ta.0 < (surface_limit ta).0
limit_above ta = go (leb ta.0 (tenths_celsius 270).0) refl
  where
    go : (b : Bool) → leb ta.0 (tenths_celsius 270).0 ≡ b → ta.0 < (cond b (tenths_celsius 500) (record { 0 = ta.0 + 250 })).0
    go true e = omega (arith, leb-true ta.0 (tenths_celsius 270).0 e)
    go false e = omega arith
