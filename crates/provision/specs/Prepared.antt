-- The logarithm to the pipe, which is the same at every thickness, as the code keeps it.
-- Assumes nothing.
use Rattle.fractions.specs.declared.Bounds.{Bounds}
use Rattle.lengths.specs.declared.units.Diameter.{Diameter}
use Rattle.lengths.specs.Units.{tenths}
use Rattle.quadrature.specs.Figures.{log_bounds}
use Rattle.line.specs.declared.Shape.{Shape}
use Rattle.line.specs.declared.Shape.TheVariants.{Cylinder, Flat}

-- the logarithm from 10.0 mm to the pipe; a flat wall has none
abbrev pub inner_log : Shape → Diameter → Bounds
inner_log Cylinder D = log_bounds (tenths 100) D
inner_log Flat D = record { lower = 0; upper = 0 }
