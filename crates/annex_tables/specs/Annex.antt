-- The annex. 01, "Ladder and figures": "The annex prints running sums from 10.0 mm at each whole millimetre to 1,600 mm, 1,591 entries for
-- each of the two, the first being 0; each entry is the one before it plus ten steps."
-- Assumes nothing.
use Rattle.std.specs.Prelude.{ℕ, ◌+◌, ◌*◌}
use Rattle.fractions.specs.declared.Bounds.{Bounds}
use Rattle.lengths.specs.Units.{tenths}
use Rattle.quadrature.specs.Figures.{log_bounds}

abbrev pub entries : ℕ
entries = 1591

-- entry k stands at 10 + k mm
abbrev pub annex_entry : ℕ → Bounds
annex_entry k = log_bounds (tenths 100) (tenths (100 + 10 * k))
