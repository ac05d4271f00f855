-- Bounds, side by side.
-- Assumes nothing.
use mathlib.Core.Path.{◌≡◌}
use Prim.Native.Nat.{ℕ}
use Rattle.fractions.specs.declared.Bounds.{Bounds}

pub lower_of : {p q : Bounds} → p ≡ q → p.lower ≡ q.lower
lower_of e = λ j. (e j).lower

pub upper_of : {p q : Bounds} → p ≡ q → p.upper ≡ q.upper
upper_of e = λ j. (e j).upper

pub both_of : {l u : ℕ} {q : Bounds} → l ≡ q.lower → u ≡ q.upper → ◌≡◌ {A = Bounds} (record { lower = l; upper = u }) q
both_of l u = λ j. record { lower = l j; upper = u j }
