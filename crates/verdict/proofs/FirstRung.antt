-- The first rung that does not miss, as the exact equation sees it.
-- Assumes nothing.
use mathlib.Core.Path.{◌≡◌, refl}
use mathlib.Core.Bool.{true, false, false≢true}
use mathlib.Core.Logic.{◌⊎◌, inl, inr, ◌↔◌}
use Prim.Native.Nat.{ℕ, zero, suc, ◌-◌, ◌≤◌, ◌<◌}
use native.Mathlib.Omega.{arith}
use Rattle.roots.proofs.Least.{least_within, least_before, least_found}
use Rattle.lengths.specs.Ladder.{rungs}
use Rattle.verdict.specs.declared.Verdict.{Verdict}
use Rattle.verdict.specs.declared.Verdict.TheVariants.{Sufficient, Insufficient, Undecided}
use Rattle.verdict.specs.Verdict.{not_insufficient, is_sufficient, is_undecided, first_not_insufficient}

-- What the tests say of a verdict.
pub insufficient_unless : (x : Verdict) → not_insufficient x ≡ false → x ≡ Insufficient
insufficient_unless Sufficient e = cc
insufficient_unless Insufficient e = refl
insufficient_unless Undecided e = cc

pub sufficient_if : (x : Verdict) → is_sufficient x ≡ true → x ≡ Sufficient
sufficient_if Sufficient e = refl
sufficient_if Insufficient e = cc
sufficient_if Undecided e = cc

pub sufficient_unless : (x : Verdict) → not_insufficient x ≡ true → is_undecided x ≡ false → x ≡ Sufficient
sufficient_unless Sufficient t u = refl
sufficient_unless Insufficient t u = cc
sufficient_unless Undecided t u = cc

pub undecided_if : (x : Verdict) → is_undecided x ≡ true → x ≡ Undecided
undecided_if Sufficient e = cc
undecided_if Insufficient e = cc
undecided_if Undecided e = refl

not_both : {x : Verdict} → x ≡ Insufficient → not_insufficient x ≡ true → ⊥
not_both e t = let z : not_insufficient Insufficient ≡ true = rw e at t in false≢true z

pub first_within : (v : ℕ → Verdict) → first_not_insufficient v ≤ rungs
unfolding first_not_insufficient
first_within v = least_within (λ r. not_insufficient (v r)) rungs

-- Every rung below the first that does not miss misses, and the first does not.
pub misses_before : (v : ℕ → Verdict) (r : ℕ) → r < first_not_insufficient v → v r ≡ Insufficient
unfolding first_not_insufficient
misses_before v r lt = insufficient_unless (v r) (least_before (λ r. not_insufficient (v r)) rungs r lt)

pub first_not_insufficient_lem : (v : ℕ → Verdict) → first_not_insufficient v < rungs → not_insufficient (v (first_not_insufficient v)) ≡ true
unfolding first_not_insufficient
first_not_insufficient_lem v = least_found (λ r. not_insufficient (v r)) rungs

-- No other rung is like that; and where all miss, there is none.
pub first_is : (v : ℕ → Verdict) (r : ℕ) → r < rungs → not_insufficient (v r) ≡ true → ((i : ℕ) → i < r → v i ≡ Insufficient) → first_not_insufficient v ≡ r
first_is v r lt here below =
    let up : ¬ (first_not_insufficient v < r) = λ h. not_both (below (first_not_insufficient v) h) (first_not_insufficient_lem v (omega arith)) in
    let down : ¬ (r < first_not_insufficient v) = λ h. not_both (misses_before v r h) here in
    omega arith

pub first_none : (v : ℕ → Verdict) → ((r : ℕ) → r < rungs → v r ≡ Insufficient) → first_not_insufficient v ≡ rungs
first_none v all =
    let no_rung : ¬ (first_not_insufficient v < rungs) = λ h. not_both (all (first_not_insufficient v) h) (first_not_insufficient_lem v h) in
    omega (arith, first_within v)

-- Where every rung below one that misses misses too, a rung tells on which side of it the first lies.
pub first_above : (v : ℕ → Verdict) → ((i j : ℕ) → i ≤ j → v j ≡ Insufficient → v i ≡ Insufficient) → (r : ℕ) → r < rungs → v r ≡ Insufficient → r < first_not_insufficient v
first_above v below r lt e =
    let not_yet : ¬ (first_not_insufficient v ≤ r) = λ le. not_both (below (first_not_insufficient v) r le e) (first_not_insufficient_lem v (omega arith)) in
    omega arith

pub first_not_above : (v : ℕ → Verdict) (r : ℕ) → not_insufficient (v r) ≡ true → first_not_insufficient v ≤ r
first_not_above v r here =
    let down : ¬ (r < first_not_insufficient v) = λ h. not_both (misses_before v r h) here in
    omega arith

-- What the verdicts v say of an exact reading, M that a rung meets and X that it misses: a rung judged sufficient meets, one judged
-- insufficient misses, and none does both.
pub record Sound (v : ℕ → Verdict) (M X : ℕ → Type 0) : Type 0 where
  pub meets : (r : ℕ) → v r ≡ Sufficient → M r
  pub misses : (r : ℕ) → v r ≡ Insufficient → X r
  pub apart : (r : ℕ) → M r → X r → ⊥

-- r meets, and the rung below it, if there is one, misses
abbrev pub Least : (M X : ℕ → Type 0) → ℕ → Type 0
Least M X r = M r × ((r ≡ 0) ⊎ X (r - 1))

previous : (X : ℕ → Type 0) (r : ℕ) → ((i : ℕ) → i < r → X i) → (r ≡ 0) ⊎ X (r - 1)
previous X zero below = inl refl
previous X (suc n) below = inr (below (suc n - 1) (omega arith))

module _ (v : ℕ → Verdict) (M X : ℕ → Type 0) (sound : Sound v M X) (enough : v (first_not_insufficient v) ≡ Sufficient) where
  pub found_least : Least M X (first_not_insufficient v)
  found_least = (sound.meets _ enough, previous X _ (λ i lt. sound.misses i (misses_before v i lt)))

  not_before : (r : ℕ) → M r → r < first_not_insufficient v → ⊥
  not_before r m lt = sound.apart r m (sound.misses r (misses_before v r lt))

  -- up to the first rung that does not miss, no other is such a rung
  pub least_up_to : (r : ℕ) → r ≤ first_not_insufficient v → (first_not_insufficient v ≡ r) ↔ Least M X r
  least_up_to r le =
      (λ e. rw e at found_least, λ (h : Least M X r). let up : ¬ (r < first_not_insufficient v) = not_before r h.0 in omega arith)

  -- nor above it, where no rung above one that meets misses
  pub least_anywhere : ((i j : ℕ) → i ≤ j → M i → X j → ⊥) → (r : ℕ) → (first_not_insufficient v ≡ r) ↔ Least M X r
  least_anywhere grows r = (λ e. rw e at found_least, λ (h : Least M X r). let down = not_after h.1 in (least_up_to r (omega arith)).1 h)
    where
      not_after : (r ≡ 0) ⊎ X (r - 1) → ¬ (first_not_insufficient v < r)
      not_after (inl e) lt = omega arith
      not_after (inr x) lt = grows _ (r - 1) (omega arith) (sound.meets _ enough) x
