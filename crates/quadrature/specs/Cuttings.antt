-- The exact sums of a cutting m, in fractions. 01, "Ladder and figures": "with strips j = mD to mE − 1, the under-sum adds 2/(2j+1) and
-- the over-sum adds (2j+1)/(2j(j+1)), the unit strip being cut in m." These are the midpoint and the trapezoidal rule for the logarithm.
-- Assumes nothing.
use Rattle.std.specs.Prelude.{ℕ, ◌+◌, ◌-◌, ◌*◌}
use Rattle.fractions.specs.Fraction.{Fraction, ◌over◌}
use Rattle.lengths.specs.declared.units.Diameter.{Diameter}
use Rattle.quadrature.specs.Sums.{fraction_sum}

abbrev pub midpoint : ℕ → Fraction
midpoint j = 2 over (2 * j + 1)

abbrev pub trapezoid : ℕ → Fraction
trapezoid j = (2 * j + 1) over (2 * j * (j + 1))

-- the strips of the cutting m from D to E, added up
unfoldable pub cut_sum : (ℕ → Fraction) → ℕ → Diameter → Diameter → Fraction
cut_sum strip m D E = fraction_sum strip (m * D.0) (m * E.0 - m * D.0)

-- the under-sum and the over-sum
abbrev pub lower_sum : ℕ → Diameter → Diameter → Fraction
lower_sum = cut_sum midpoint

abbrev pub upper_sum : ℕ → Diameter → Diameter → Fraction
upper_sum = cut_sum trapezoid
