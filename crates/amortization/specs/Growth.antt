-- Growth by compound interest, at a rate i that counts 0.0001. 02, N1.
-- Assumes nothing.
use Rattle.std.specs.Prelude.{ℕ, zero, suc, ◌+◌, ◌*◌, ◌^◌}
use Rattle.fractions.specs.Fraction.{Fraction, ◌over◌}

-- "from 10⁹": what is compounded
abbrev pub principal : ℕ
principal = 1_000_000_000

-- "each year multiplied by (10,000 + i) / 10,000", and rounded
abbrev pub year : (Fraction → ℕ) → ℕ → ℕ → ℕ
year round i g = round ((g * (10_000 + i)) over 10_000)

-- "Growth is compounded year by year from 10⁹, each year multiplied by (10,000 + i) / 10,000, once rounded down and once up.": after n years
unfoldable pub growth : (Fraction → ℕ) → ℕ → ℕ → ℕ
growth round i zero = principal
growth round i (suc n) = year round i (growth round i n)

-- the same, over the principal
abbrev pub rounded_growth : (Fraction → ℕ) → ℕ → ℕ → Fraction
rounded_growth round i n = growth round i n over principal

-- the growth unrounded, (1 + i / 10,000)ⁿ
abbrev pub exact_growth : ℕ → ℕ → Fraction
exact_growth i n = ((10_000 + i) ^ n) over (10_000 ^ n)
