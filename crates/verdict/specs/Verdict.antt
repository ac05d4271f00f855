-- The verdict on a thickness. 01, "Ladder and figures", and 02, N6.
-- Assumes nothing.
use Rattle.std.specs.Prelude.{ℕ, ◌*◌, Bool, true, false, cond, leb, ltb}
use Rattle.fractions.specs.declared.Bounds.{Bounds}
use Rattle.fractions.specs.Fraction.{Fraction}
use Rattle.lengths.specs.declared.units.Thickness.{Thickness}
use Rattle.lengths.specs.Ladder.{rungs, thickness_at}
use Rattle.roots.specs.Least.{least}
use Rattle.line.specs.declared.Line.{Line}
use Rattle.verdict.specs.declared.Verdict.{Verdict}
use Rattle.verdict.specs.declared.Verdict.TheVariants.{Sufficient, Insufficient, Undecided}
use Rattle.provision.specs.Provided.{provided}
use Rattle.requirement.specs.Required.{enclosing}
use Rattle.requirement.specs.Criterion.{Criterion}
use Rattle.requirement.specs.Criterion.Criterion.{enclosed, squared, unattainable}

-- "A rung meets if under-have is at or above high need. It misses if over-have is below low need. Otherwise it is open.": p is what the
-- rung provides and q what is required
abbrev pub judged : Bounds → Bounds → Verdict
judged p q = cond (leb q.upper p.lower) Sufficient (cond (ltb p.upper q.lower) Insufficient Undecided)

-- "A rung meets when the square of under-have is at or above" what is required, q. "It misses when the square of over-have is below it."
-- (02, N6)
abbrev pub judged_by_squares : Bounds → Fraction → Verdict
judged_by_squares p q =
    judged (record { lower = p.lower * p.lower * q.den; upper = p.upper * p.upper * q.den }) (record { lower = q.num; upper = q.num })

-- the verdict by a criterion: "A rung where the difference is not positive misses" (02, N6)
abbrev pub judged_by : Bounds → Criterion → Verdict
judged_by p (enclosed required) = judged p (enclosing required)
judged_by p (squared required) = judged_by_squares p required
judged_by p unattainable = Insufficient

-- the verdict on the rung with index r of the line l, where each thickness has a criterion
abbrev pub verdict_of : Line → (Thickness → Criterion) → ℕ → Verdict
verdict_of l criterion r = let k = thickness_at r in judged_by (provided l k) (criterion k)

-- does a rung not miss?
abbrev pub not_insufficient : Verdict → Bool
not_insufficient Sufficient = true
not_insufficient Insufficient = false
not_insufficient Undecided = true

-- does it meet?
abbrev pub is_sufficient : Verdict → Bool
is_sufficient Sufficient = true
is_sufficient Insufficient = false
is_sufficient Undecided = false

-- is it open?
abbrev pub is_undecided : Verdict → Bool
is_undecided Sufficient = false
is_undecided Insufficient = false
is_undecided Undecided = true

-- "The first rung that doesn't miss is the thickness if it meets": that rung's index, or the number of rungs where all miss
unfoldable pub first_not_insufficient : (ℕ → Verdict) → ℕ
first_not_insufficient v = least (λ r. not_insufficient (v r)) rungs
