-- The whole-number figures of the logarithm: 01, "Ladder and figures".
-- Assumes nothing.
use Rattle.std.specs.Prelude.{ℕ, ◌+◌, ◌-◌, ◌*◌, ◌^◌}
use Rattle.fractions.specs.declared.Bounds.{Bounds}
use Rattle.fractions.specs.Fraction.{◌over◌}
use Rattle.fractions.specs.Rounding.{floor, ceiling}
use Rattle.lengths.specs.declared.units.Diameter.{Diameter}
use Rattle.quadrature.specs.Sums.{total}

-- "units of 10⁻¹²"
abbrev pub tera : ℕ
tera = 10 ^ 12

-- "under-step = 2×10¹² / (2i+1) rounded down"
unfoldable pub lower_step : ℕ → ℕ
lower_step i = floor (2 * tera over (2 * i + 1))

-- "over-step = 10¹² × (2i+1) / (2i(i+1)) rounded up"
unfoldable pub upper_step : ℕ → ℕ
upper_step i = ceiling (tera * (2 * i + 1) over (2 * i * (i + 1)))

abbrev pub step_bounds : ℕ → Bounds
step_bounds i = record { lower = lower_step i; upper = upper_step i }

-- "The under-log or over-log from D to E is the sum of the steps for i = D to E − 1, zero when E = D."
abbrev pub lower_log : Diameter → Diameter → ℕ
lower_log D E = total lower_step D.0 (E.0 - D.0)

abbrev pub upper_log : Diameter → Diameter → ℕ
upper_log D E = total upper_step D.0 (E.0 - D.0)

abbrev pub log_bounds : Diameter → Diameter → Bounds
log_bounds D E = record { lower = lower_log D E; upper = upper_log D E }
