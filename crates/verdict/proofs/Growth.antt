-- Where the same is required at every thickness, the rungs that miss lie below those that do not; what misses a lower need misses a higher
-- one, and what meets the higher meets the lower.
-- Assumes nothing.
use mathlib.Core.Path.{◌≡◌, refl}
use mathlib.Core.Bool.{Bool, true, false, cond}
use Prim.Native.Nat.{ℕ, ◌≤◌}
use native.Mathlib.Nat.{le_refl}
use native.Mathlib.Omega.{arith}
use lib.Dec.{leb, ltb}
use borrow.Author.Tests.{le-leb, lt-leb, leb-true, leb-false, lt-ltb, ltb-true}
use Rattle.fractions.specs.declared.Bounds.{Bounds}
use Rattle.lengths.specs.Ladder.{thickness_at}
use Rattle.line.specs.declared.Line.{Line}
use Rattle.provision.specs.Provided.{provided}
use Rattle.provision.proofs.Growth.{provided_more}
use Rattle.verdict.specs.declared.Verdict.TheVariants.{Sufficient, Insufficient, Undecided}
use Rattle.verdict.specs.Verdict.{judged}
use Rattle.verdict.specs.Choice.{verdict_for}

-- both bounds of p are at or below those of q
abbrev pub Below : Bounds → Bounds → Type 0
Below p q = (p.lower ≤ q.lower) × (p.upper ≤ q.upper)

-- what is less than insufficient is insufficient, and for more too
pub less_insufficient : (p p' q q' : Bounds) → Below p p' → Below q q' → judged p' q ≡ Insufficient → judged p q' ≡ Insufficient
less_insufficient p p' q q' less more = go (leb q.upper p'.lower) (ltb p'.upper q.lower) refl refl
  where
    go : (a b : Bool) → leb q.upper p'.lower ≡ a → ltb p'.upper q.lower ≡ b → cond a Sufficient (cond b Insufficient Undecided) ≡ Insufficient → judged p q' ≡ Insufficient
    go true b e f is = cc
    go false true e f is = simp (lt-leb q'.upper p.lower (omega (arith, leb-false q.upper p'.lower e)), lt-ltb p.upper q'.lower (omega (arith, ltb-true p'.upper q.lower f)))
    go false false e f is = cc

-- what is sufficient is sufficient for less
pub sufficient_for_less : (p q q' : Bounds) → Below q q' → judged p q' ≡ Sufficient → judged p q ≡ Sufficient
sufficient_for_less p q q' less = go (leb q'.upper p.lower) (ltb p.upper q'.lower) refl refl
  where
    go : (a b : Bool) → leb q'.upper p.lower ≡ a → ltb p.upper q'.lower ≡ b → cond a Sufficient (cond b Insufficient Undecided) ≡ Sufficient → judged p q ≡ Sufficient
    go true b e f is = simp (le-leb q.upper p.lower (omega (arith, leb-true q'.upper p.lower e)))
    go false true e f is = cc
    go false false e f is = cc

pub insufficient_below : (l : Line) (q : Bounds) {i j : ℕ} → i ≤ j → verdict_for l q j ≡ Insufficient → verdict_for l q i ≡ Insufficient
insufficient_below l q {i} {j} le =
    let more = provided_more l {j = thickness_at i} {k = thickness_at j} (omega arith) in
    less_insufficient (provided l (thickness_at i)) (provided l (thickness_at j)) q q more (le_refl _, le_refl _)
