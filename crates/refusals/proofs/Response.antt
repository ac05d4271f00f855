-- What a call with a list of cases responds.
-- Assumes nothing.
use mathlib.Core.Path.{◌≡◌, refl, sym, ◌∙◌}
use mathlib.Core.Bool.{Bool, true, false, not, ◌&&◌, and-eq-true_iff}
use mathlib.Core.Logic.{inl, inr}
use mathlib.Mathlib.Data.Bool.Basic.{dichotomy}
use mathlib.Core.List.{List, [], ◌∷◌, ◌++◌, append-nil}
use Prim.Native.Nat.{ℕ, zero, suc}
use native.Mathlib.Omega.{arith}
use lib.Dec.{eqb}
use lib.ListN.{take}
use borrow.Author.Tests.{eqb-false, not-true}
use Rattle.refusals.specs.Cases.{Case, case, NoneHolds, FirstHolds}
use Rattle.refusals.specs.Response.{refused, complete, respond, FirstOrComplete}

-- Demand 1.
pub first_or_complete : (cs : List Case) (bytes : List ℕ) → FirstOrComplete cs bytes (respond cs bytes)
unfolding NoneHolds FirstHolds respond
first_or_complete [] bytes = inr (tt, refl)
first_or_complete (c ∷ cs) bytes =
    elim (dichotomy c.holds) [
      | inr t ↦ inl (c.number, inl (t, refl), rw t)
      | inl f ↦ elim (first_or_complete cs bytes) [ inl first ↦ inl (first.0, inr (f, first.1), rw f first.2) | inr none ↦ inr ((f, none.0), rw f none.1) ]
    ]

-- None in front holds: the cases behind decide. None before the case with index k holds, and it does: its number counts.
pub later : (before after : List Case) (bytes : List ℕ) → NoneHolds before → respond (before ++ after) bytes ≡ respond after bytes
unfolding NoneHolds respond
later [] after bytes none = refl
later (c ∷ before) after bytes none = rw none.0 (later before after bytes none.1)

pub none_holds : (cs : List Case) (bytes : List ℕ) → NoneHolds cs → respond cs bytes ≡ complete bytes
unfolding respond
none_holds cs bytes none = rw append-nil at (later cs [] bytes none)

-- the case with index k, one that does not hold where there is none
abbrev pub nth : ℕ → List Case → Case
nth k [] = case 0 false
nth zero (c ∷ cs) = c
nth (suc k) (c ∷ cs) = nth k cs

pub first_at : (k : ℕ) (cs : List Case) (bytes : List ℕ) → NoneHolds (take k cs) → (nth k cs).holds ≡ true → respond cs bytes ≡ refused (nth k cs).number
unfolding NoneHolds respond
first_at k [] bytes none e = cc
first_at zero (c ∷ cs) bytes none e = rw e
first_at (suc k) (c ∷ cs) bytes none e = rw none.0 (first_at k cs bytes none.1 e)

-- the next case fails too
pub none_more : (k : ℕ) (cs : List Case) → NoneHolds (take k cs) → (nth k cs).holds ≡ false → NoneHolds (take (suc k) cs)
unfolding NoneHolds
none_more k [] none e = tt
none_more zero (c ∷ cs) none e = (e, tt)
none_more (suc k) (c ∷ cs) none e = (none.0, none_more k cs none.1 e)

-- no case of the list has the number n
unfoldable pub absent : ℕ → List Case → Bool
absent n [] = true
absent n (c ∷ cs) = not (eqb c.number n) && absent n cs

-- A refusal by the cases in front.
pub in_front : (cs ds : List Case) (x y : List ℕ) (n : ℕ) → respond cs x ≡ refused n → respond (cs ++ ds) y ≡ refused n
unfolding respond
in_front [] ds x y n e = cc
in_front (c ∷ cs) ds x y n e = elim (dichotomy c.holds) [ inr t ↦ rw t (rw t at e) | inl f ↦ rw f (in_front cs ds x y n (rw f at e)) ]

-- the first case that holds is the one that counts, whatever stands behind it
pub first_counts : (n : ℕ) (cs ds : List Case) (bytes : List ℕ) → FirstHolds n cs → respond (cs ++ ds) bytes ≡ refused n
unfolding FirstHolds respond
first_counts n [] ds bytes first = absurd first
first_counts n (c ∷ cs) ds bytes (inl here) = rw (here.0, here.1)
first_counts n (c ∷ cs) ds bytes (inr behind) = rw behind.0 (first_counts n cs ds bytes behind.1)

-- a refusal by the cases in front is the same whatever stands behind them
pub from_front : (n : ℕ) (cs ds es : List Case) (x y : List ℕ) → respond ds x ≡ complete x → respond (cs ++ ds) x ≡ refused n → respond (cs ++ es) y ≡ refused n
from_front n cs ds es x y none h =
    elim (first_or_complete cs x) [
      | inl first ↦ let same = first_counts first.0 cs ds x first.1 in first_counts first.0 cs es y first.1 ∙ (sym same ∙ h)
      | inr nothing ↦ let given = later cs ds x nothing.0 ∙ none in cc
    ]

-- A number that no case in front has: none in front holds.
pub behind : (n : ℕ) (cs ds : List Case) (bytes : List ℕ) → absent n cs ≡ true → respond (cs ++ ds) bytes ≡ refused n → NoneHolds cs × (respond ds bytes ≡ refused n)
unfolding NoneHolds respond absent
behind n [] ds bytes away e = (tt, e)
behind n (c ∷ cs) ds bytes away e =
    let apart = (and-eq-true_iff (not (eqb c.number n)) (absent n cs)).0 away in
    elim (dichotomy c.holds) [
      | inr t ↦ absurd (eqb-false c.number n (not-true _ apart.0) (cc (rw t at e)))
      | inl f ↦ let rest = behind n cs ds bytes apart.1 (rw f at e) in ((f, rest.0), rest.1)
    ]

-- A complete response: no case holds.
pub completed : (cs : List Case) (bytes a : List ℕ) → respond cs bytes ≡ complete a → NoneHolds cs × (bytes ≡ a)
unfolding NoneHolds respond
completed [] bytes a e = (tt, cc)
completed (c ∷ cs) bytes a e =
    elim (dichotomy c.holds) [
      | inr t ↦ let z : ◌≡◌ {A = ℕ} 0 1 = cc (rw t at e) in absurd (omega arith)
      | inl f ↦ let rest = completed cs bytes a (rw f at e) in ((f, rest.0), rest.1)
    ]

-- A number that no case behind has: the case in front with that number holds.
pub front : (n : ℕ) (b : Bool) (cs : List Case) (bytes : List ℕ) → absent n cs ≡ true → respond (case n b ∷ cs) bytes ≡ refused n → b ≡ true
unfolding respond
front n true cs bytes away e = refl
front n false cs bytes away e = cc (behind n cs [] bytes away (rw append-nil e)).1
