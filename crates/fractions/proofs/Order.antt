-- The order of fractions, and addition.
-- Assumes nothing.
use mathlib.Core.Path.{◌≡◌}
use Prim.Native.Nat.{◌*◌, ◌<◌}
use native.Mathlib.Nat.{mul-le-mul_right, le_of_mul-le-mul_right}
use native.Mathlib.Omega.{arith}
use Rattle.fractions.specs.Fraction.{Fraction, plus, ◌≼◌}

pub fraction_path : {p q : Fraction} → p.num ≡ q.num → p.den ≡ q.den → p ≡ q
fraction_path n d = λ i. record { num = n i; den = d i }

pub ≼_trans : (p q r : Fraction) → 0 < q.den → p ≼ q → q ≼ r → p ≼ r
≼_trans p q r pos h k = le_of_mul-le-mul_right (omega (arith, mul-le-mul_right r.den h, mul-le-mul_right p.den k)) pos

pub plus_mono : (p q u v : Fraction) → p ≼ u → q ≼ v → plus p q ≼ plus u v
plus_mono p q u v h k = omega (arith, mul-le-mul_right (q.den * v.den) h, mul-le-mul_right (p.den * u.den) k)
