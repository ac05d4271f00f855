-- What the shape of a line tells.
-- Assumes nothing.
use mathlib.Core.Path.{◌≡◌, refl}
use mathlib.Core.Bool.{Bool, true, false, cond}
use Prim.Native.Nat.{◌≤◌}
use native.Mathlib.Omega.{arith}
use borrow.Author.Tests.{leb-true}
use Rattle.line.specs.declared.Line.{Line}
use Rattle.line.specs.declared.Shape.{Shape}
use Rattle.line.specs.declared.Shape.TheVariants.{Cylinder, Flat}
use Rattle.line.specs.Line.{shape_of, multiplier}

pub cylinder_diameter : (l : Line) → shape_of l ≡ Cylinder → l.diameter.0 ≤ 10_000
cylinder_diameter l e = leb-true _ _ (go _ e)
  where
    go : (b : Bool) → cond b Cylinder Flat ≡ Cylinder → b ≡ true
    go true e = refl
    go false e = cc

pub multiplier_le : (s : Shape) → multiplier s ≤ 2
multiplier_le Cylinder = omega arith
multiplier_le Flat = omega arith
