-- The count of a signed number is the toolchain's two's complement reading, shifted by 32,768; and the count turns back.
-- Assumes nothing.
use mathlib.Core.Path.{◌≡◌, refl, ap}
use mathlib.Core.Bool.{Bool, true, false}
use Prim.Native.Nat.{ℕ, suc, ◌-◌, ◌<◌}
use native.Mathlib.Omega.{arith}
use lib.Dec.{ltb}
use lib.IntN.{pos, negsuc, ◌+ℤ◌}
use mir.Syntax.{w16}
use mir.Val.{to_z, sel}
use borrow.Author.Tests.{ltb-true, ltb-false, le-ltb}
use Rattle.temperatures.specs.Temperature.{offset_binary}

pub signed_reading : (n : ℕ) → n < 65_536 → to_z w16 n +ℤ pos 32_768 ≡ pos (offset_binary n)
signed_reading n lt = by (ltb n 32_768) refl
  where
    by : (b : Bool) → ltb n 32_768 ≡ b → sel b (pos n) (negsuc (65_536 - suc n)) +ℤ pos 32_768 ≡ pos (offset_binary n)
    by true t = let below = ltb-true n 32_768 t in ap pos (omega arith)
    by false t =
        let above = ltb-false n 32_768 t in
        rw (le-ltb 32_768 (suc (65_536 - suc n)) (omega arith)) (ap pos (omega arith))

pub turned_back : (n : ℕ) → n < 65_536 → offset_binary (offset_binary n) ≡ n
turned_back n lt = omega arith
