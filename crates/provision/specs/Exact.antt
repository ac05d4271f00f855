-- What a thickness provides, unrounded. 01, "Ladder and figures": "The exact reading of the equation uses the same have and need unrounded".
-- Assumes nothing.
use Rattle.std.specs.Prelude.{◌*◌, ◌^◌}
use Rattle.fractions.specs.Fraction.{Fraction, ◌over◌, plus}
use Rattle.lengths.specs.declared.units.Diameter.{Diameter}
use Rattle.lengths.specs.declared.units.Thickness.{Thickness}
use Rattle.line.specs.declared.Line.{Line}
use Rattle.line.specs.Line.{shape_of}
use Rattle.provision.specs.Provided.{insulation, film}

-- "The sums are plain numbers there, so have takes E × sum × 10⁵.": sum × 10⁵ in place of log / 10⁷
abbrev pub from_sum : (Diameter → Diameter → Fraction) → Diameter → Diameter → Fraction
from_sum sum D E = ((sum D E).num * 10 ^ 5) over (sum D E).den

-- Have unrounded. "A cutting m … replaces the log": sum gives its under-sum or over-sum between two diameters. "Flat walls have no sum."
unfoldable pub provided_exactly : (Diameter → Diameter → Fraction) → Line → Thickness → Fraction
provided_exactly sum l k = plus (insulation (from_sum sum) (shape_of l) l.diameter k) (film l)
