-- Fractions. 01, "Ladder and figures": "pairs of whole numbers, compared with the denominators cleared".
-- Assumes nothing.
use Rattle.std.specs.Prelude.{ℕ, ◌+◌, ◌*◌, ◌≤◌, ◌<◌}

pub record Fraction : Type 0 where
  pub num : ℕ
  pub den : ℕ

infix 60 ◌over◌
abbrev pub ◌over◌ : ℕ → ℕ → Fraction
n over d = record { num = n; den = d }

abbrev pub plus : Fraction → Fraction → Fraction
plus p q = (p.num * q.den + q.num * p.den) over (p.den * q.den)

abbrev pub times : Fraction → Fraction → Fraction
times p q = (p.num * q.num) over (p.den * q.den)

-- p is not above q, where neither denominator is 0
infix 50 ◌≼◌
abbrev pub ◌≼◌ : Fraction → Fraction → Type 0
p ≼ q = p.num * q.den ≤ q.num * p.den

-- p is below q, where neither denominator is 0
infix 50 ◌≺◌
abbrev pub ◌≺◌ : Fraction → Fraction → Type 0
p ≺ q = p.num * q.den < q.num * p.den
