-- The yearly share S, the capital recovery factor, which counts 0.0001 as the rate does. 02, N1; 000, 5.2.1: S = i(1 + i)ⁿ / ((1 + i)ⁿ − 1).
-- Assumes nothing.
use Rattle.std.specs.Prelude.{ℕ, ◌-◌, ◌*◌}
use Rattle.fractions.specs.Fraction.{Fraction, ◌over◌}
use Rattle.fractions.specs.Rounding.{nearest}
use Rattle.amortization.specs.Growth.{rounded_growth, exact_growth}

-- "the rate times the growth over n years, divided by the growth less one", of a growth above 1
abbrev pub share : ℕ → Fraction → Fraction
share i g = (i * g.num) over (g.num - g.den)

-- "S is given to the nearest 0.0001, a half going up": from the growth that `round` gave
abbrev pub share_by : (Fraction → ℕ) → ℕ → ℕ → ℕ
share_by round i n = nearest (share i (rounded_growth round i n))

-- and from the growth unrounded
abbrev pub exact_share : ℕ → ℕ → ℕ
exact_share i n = nearest (share i (exact_growth i n))
