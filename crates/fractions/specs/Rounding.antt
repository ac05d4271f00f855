-- A fraction rounded down and rounded up, as 01, "Ladder and figures", rounds its figures and quotients; and the nearest whole number.
-- Assumes nothing.
use Rattle.std.specs.Prelude.{ℕ, ◌+◌, ◌-◌, ◌*◌, ◌/◌}
use Rattle.fractions.specs.declared.Bounds.{Bounds}
use Rattle.fractions.specs.Fraction.{Fraction}

-- the largest whole number not above p, where the denominator is not 0
abbrev pub floor : Fraction → ℕ
floor p = p.num / p.den

-- the least whole number not below p, where the denominator is not 0
abbrev pub ceiling : Fraction → ℕ
ceiling p = (p.num + (p.den - 1)) / p.den

-- both, where the denominator is not 0
abbrev pub rounded : Fraction → Bounds
rounded p = record { lower = floor p; upper = ceiling p }

-- the nearest whole number, "a half going up" (02, N1), where the denominator is not 0
abbrev pub nearest : Fraction → ℕ
nearest p = (2 * p.num + p.den) / (2 * p.den)
