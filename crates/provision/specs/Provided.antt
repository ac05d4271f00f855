-- What a thickness provides, the paper's have, in nanometres. 01, "Ladder and figures".
-- Assumes nothing.
use Rattle.std.specs.Prelude.{ℕ, ◌+◌, ◌*◌, ◌^◌}
use Rattle.fractions.specs.declared.Bounds.{Bounds}
use Rattle.fractions.specs.Fraction.{Fraction, ◌over◌}
use Rattle.fractions.specs.Rounding.{floor, ceiling, rounded}
use Rattle.lengths.specs.declared.units.Diameter.{Diameter}
use Rattle.lengths.specs.declared.units.Thickness.{Thickness}
use Rattle.lengths.specs.Units.{outer_diameter}
use Rattle.quadrature.specs.Figures.{lower_log, upper_log}
use Rattle.line.specs.declared.Line.{Line}
use Rattle.line.specs.declared.Shape.{Shape}
use Rattle.line.specs.declared.Shape.TheVariants.{Cylinder, Flat}
use Rattle.line.specs.Line.{shape_of, multiplier}

-- Have is the sum of two quotients. The insulation's, of thickness k on diameter D: "cylinder: E × log / 10⁷", "flat: k × 10⁶". scaled_log
-- gives log / 10⁷ between two diameters, as a fraction.
unfoldable pub insulation : (Diameter → Diameter → Fraction) → Shape → Diameter → Thickness → Fraction
insulation scaled_log Cylinder D k = let E = outer_diameter D k in (E.0 * (scaled_log D E).num) over (scaled_log D E).den
insulation scaled_log Flat D k = (k.0 * 10 ^ 6) over 1

-- The surface film's: "plus 2L × 10⁷ / α", "plus L × 10⁷ / α".
unfoldable pub film : Line → Fraction
film l = (multiplier (shape_of l) * l.conductivity * 10 ^ 7) over l.coefficient

-- log / 10⁷, of a logarithm in whole-number figures
abbrev pub from_figures : (Diameter → Diameter → ℕ) → Diameter → Diameter → Fraction
from_figures log D E = log D E over 10 ^ 7

-- "Under-have uses the under-log and rounds each quotient down. Over-have uses the over-log and rounds each up.": each quotient so
-- rounded, and their sum
unfoldable pub insulation_bounds : Shape → Diameter → Thickness → Bounds
insulation_bounds s D k =
    record { lower = floor (insulation (from_figures lower_log) s D k); upper = ceiling (insulation (from_figures upper_log) s D k) }

unfoldable pub film_bounds : Line → Bounds
film_bounds l = rounded (film l)

unfoldable pub provided : Line → Thickness → Bounds
provided l k =
    let insulated = insulation_bounds (shape_of l) l.diameter k in
    record { lower = insulated.lower + (film_bounds l).lower; upper = insulated.upper + (film_bounds l).upper }
