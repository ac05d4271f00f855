-- The layouts of both kinds are ones that the inner functions take.
-- Assumes nothing.
use native.Mathlib.Omega.{arith}
use Rattle.kinds.specs.declared.Kind.{Kind}
use Rattle.kinds.specs.declared.Kind.TheVariants.{Standard, Larger}
use Rattle.layout.specs.Layout.{layout_of}
use Rattle.layout.specs.Usable.{Usable}

pub usable_of : (kind : Kind) → Usable (layout_of kind)
usable_of Standard = record { narrow = omega arith; held = omega arith; addressed = omega arith }
usable_of Larger = record { narrow = omega arith; held = omega arith; addressed = omega arith }
