-- Whole roots. 01, "Ladder and figures": "Low need is the largest whole number not above it; high need is the least not below it", and
-- "a root by its square".
-- Assumes nothing.
use Rattle.std.specs.Prelude.{ℕ, ◌*◌, leb}
use Rattle.fractions.specs.declared.Bounds.{Bounds}
use Rattle.fractions.specs.Fraction.{Fraction}
use Rattle.roots.specs.Least.{largest, least}

-- the largest whole number whose square times the denominator is at most the numerator, where the denominator is not 0; no number above the
-- numerator is like that
unfoldable pub floor_root : Fraction → ℕ
floor_root p = largest (λ r. leb (r * r * p.den) p.num) p.num

-- the least whole number whose square times the denominator is at least the numerator, where the denominator is not 0; the numerator itself
-- is like that
unfoldable pub ceiling_root : Fraction → ℕ
ceiling_root p = least (λ r. leb p.num (r * r * p.den)) p.num

abbrev pub root_bounds : Fraction → Bounds
root_bounds p = record { lower = floor_root p; upper = ceiling_root p }
