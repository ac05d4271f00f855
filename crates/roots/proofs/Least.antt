-- The largest number that passes a test does pass, and nothing above it does; the least does, and nothing below it does.
-- Assumes nothing.
use mathlib.Core.Path.{◌≡◌}
use mathlib.Core.Bool.{Bool, true, false}
use mathlib.Core.Logic.{inl, inr, ⊎_elim}
use mathlib.Mathlib.Data.Bool.Basic.{dichotomy}
use Prim.Native.Nat.{ℕ, zero, suc, ◌≤◌, ◌<◌}
use native.Mathlib.Nat.{le_of_suc-le-suc, not-suc-le-zero, le-suc_iff}
use native.Mathlib.Omega.{arith}
use Rattle.roots.specs.Least.{largest, least}

pub largest_passes : (p : ℕ → Bool) (n : ℕ) → p 0 ≡ true → (p (largest p n) ≡ true) × ((x : ℕ) → largest p n < x → x ≤ n → p x ≡ false)
unfolding largest
largest_passes p zero t = (t, λ x lt le. absurd (omega arith))
largest_passes p (suc n) t =
    let rest = largest_passes p n t in
    elim (dichotomy (p (suc n))) [
      | inl f ↦ rw (f, largest) (rest.0, λ x lt le. ⊎_elim (λ (k : x ≤ n). rest.1 x lt k) (λ (k : x ≡ suc n). rw k f) (le-suc_iff.0 le))
      | inr e ↦ rw (e, largest) (e, λ x lt le. absurd (omega arith))
    ]

pub least_within : (p : ℕ → Bool) (n : ℕ) → least p n ≤ n
unfolding least
least_within p zero = omega arith
least_within p (suc n) = elim (dichotomy (p 0)) [ inl f ↦ rw (f, least) (omega (arith, least_within (λ m. p (suc m)) n)) | inr t ↦ rw (t, least) (omega arith) ]

pub least_before : (p : ℕ → Bool) (n x : ℕ) → x < least p n → p x ≡ false
unfolding least
least_before p zero x lt = absurd (not-suc-le-zero lt)
least_before p (suc n) zero lt = elim (dichotomy (p 0)) [ inl f ↦ f | inr t ↦ absurd (not-suc-le-zero (rw (t, least) at lt)) ]
least_before p (suc n) (suc x) lt =
    elim (dichotomy (p 0)) [
      | inl f ↦ least_before (λ m. p (suc m)) n x (le_of_suc-le-suc (rw (f, least) at lt))
      | inr t ↦ absurd (not-suc-le-zero (rw (t, least) at lt))
    ]

pub least_found : (p : ℕ → Bool) (n : ℕ) → least p n < n → p (least p n) ≡ true
unfolding least
least_found p zero lt = absurd (not-suc-le-zero lt)
least_found p (suc n) lt = elim (dichotomy (p 0)) [ inl f ↦ rw (f, least) (least_found (λ m. p (suc m)) n (le_of_suc-le-suc (rw (f, least) at lt))) | inr t ↦ rw (t, least) t ]

pub least_passes : (p : ℕ → Bool) (n : ℕ) → p n ≡ true → p (least p n) ≡ true
unfolding least
least_passes p zero t = t
least_passes p (suc n) t = elim (dichotomy (p 0)) [ inl f ↦ rw (f, least) (least_passes (λ m. p (suc m)) n t) | inr e ↦ rw (e, least) e ]
