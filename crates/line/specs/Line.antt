-- The shape of a line.
-- Assumes nothing.
use Rattle.std.specs.Prelude.{ℕ, cond, leb}
use Rattle.line.specs.declared.Line.{Line}
use Rattle.line.specs.declared.Shape.{Shape}
use Rattle.line.specs.declared.Shape.TheVariants.{Cylinder, Flat}

-- 01, "Ladder and figures": "D up to 10,000 is a cylinder, above that a flat wall (000, 5.1.1)."
abbrev pub shape_of : Line → Shape
shape_of l = cond (leb l.diameter.0 10_000) Cylinder Flat

-- what stands before L: "2L" on a cylinder, "L" on a flat wall
abbrev pub multiplier : Shape → ℕ
multiplier Cylinder = 2
multiplier Flat = 1
