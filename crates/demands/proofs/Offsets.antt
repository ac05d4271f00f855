-- The fields stand in the order of their offsets, and the value of each is what stands there.
-- Assumes nothing.
use mathlib.Core.Path.{◌≡◌, refl, ap}
use mathlib.Core.Bool.{Bool, true, false, cond, ◌||◌}
use mathlib.Core.Logic.{⊎_elim}
use mathlib.Core.List.Memᴰ
use mathlib.Core.List.{List, [], ◌∷◌, ◌++◌, map, Memᴰ}
use Prim.Native.Nat.{ℕ}
use lib.Dec.{eqb}
use lib.ListN.{get_or}
use borrow.Author.Tests.{eqb-true}
use Rattle.kinds.specs.declared.Kind.{Kind}
use Rattle.sheet.specs.declared.fields.GoalCode.{GoalCode}
use Rattle.sheet.specs.declared.fields.GoalCode.TheVariants.{ForEconomy, ForLoss, ForSurface}
use Rattle.sheet.specs.declared.fields.Sheet.{Sheet}
use Rattle.sheet.specs.Sheet.{goal_code, counts_jacket, uses_economy, uses_aim, decoded_as}
use Rattle.sheet.specs.declared.faults.Field.{Field}
use Rattle.sheet.specs.Fields.{economy_fields, aim_fields, fields}
use Rattle.demands.specs.Offsets.{stands_at, Offsets}

module _ (kind : Kind) (b : List ℕ) where
  abbrev s : Sheet
  s = decoded_as kind b

  -- each field of a list
  abbrev Each : List Field → Type 0
  Each [] = Unit {0}
  Each (f ∷ fs) = (f.value ≡ stands_at kind b f.offset) × Each fs

  each : (fs : List Field) → Each fs → (f : Field) → Memᴰ f fs → f.value ≡ stands_at kind b f.offset
  each [] e f m = absurd (Memᴰ.not-nil m)
  each (g ∷ fs) e f m = ⊎_elim (λ here. rw here e.0) (λ later. each fs e.1 f later) (Memᴰ.cases_cons m)

  own : (counted : Bool) (g : GoalCode) → Each (economy_fields (uses_economy g) s ++ aim_fields (uses_aim counted g) s)
  unfolding decoded_as
  own false ForEconomy = (refl, (refl, (refl, (refl, (refl, tt)))))
  own true ForEconomy = (refl, (refl, (refl, (refl, tt))))
  own counted ForLoss = (refl, (refl, (refl, (refl, tt))))
  own counted ForSurface = (refl, (refl, (refl, (refl, tt))))

  all : Each (fields s)
  unfolding decoded_as
  all = (refl, (refl, (refl, (refl, (refl, (refl, (refl, own s.counts_jacket s.goal)))))))

  abbrev offsets_of : List Field → List ℕ
  offsets_of = map (λ (f : Field). f.offset)

  -- the offsets of the fields that only some goals use, by the goal's code n
  module _ (n : ℕ) where
    abbrev own_fields : (counted : Bool) → GoalCode → List Field
    own_fields counted g = economy_fields (uses_economy g) s ++ aim_fields (uses_aim counted g) s

    but_7 :
        (one five six two : Bool) → offsets_of (own_fields false (cond (one || five || six || false) ForEconomy (cond two ForLoss ForSurface))) ≡
        (14 ∷ 16 ∷ 18 ∷ 20 ∷ cond (one || five || six) (22 ∷ []) [])
    but_7 true five six two = refl
    but_7 false true six two = refl
    but_7 false false true two = refl
    but_7 false false false true = refl
    but_7 false false false false = refl

    own_order : offsets_of (own_fields (counts_jacket n) (goal_code n)) ≡ (14 ∷ 16 ∷ 18 ∷ 20 ∷ cond (eqb n 1 || eqb n 5 || eqb n 6) (22 ∷ []) [])
    own_order = go (eqb n 7) refl
      where
        go :
            (seven : Bool) → eqb n 7 ≡ seven →
            offsets_of (own_fields seven (cond (eqb n 1 || eqb n 5 || eqb n 6 || seven) ForEconomy (cond (eqb n 2) ForLoss ForSurface))) ≡
            (14 ∷ 16 ∷ 18 ∷ 20 ∷ cond (eqb n 1 || eqb n 5 || eqb n 6) (22 ∷ []) [])
        go true e = rw (eqb-true n 7 e) refl
        go false e = but_7 (eqb n 1) (eqb n 5) (eqb n 6) (eqb n 2)

  in_order :
      map (λ (f : Field). f.offset) (fields s) ≡
      (0 ∷ 1 ∷ 4 ∷ 6 ∷ 8 ∷ 10 ∷ 12 ∷ 14 ∷ 16 ∷ 18 ∷ 20 ∷ cond (eqb (get_or b 0 0) 1 || eqb (get_or b 0 0) 5 || eqb (get_or b 0 0) 6) (22 ∷ []) [])
  unfolding decoded_as
  in_order = ap (λ (rest : List ℕ). 0 ∷ 1 ∷ 4 ∷ 6 ∷ 8 ∷ 10 ∷ 12 ∷ rest) (own_order (get_or b 0 0))

pub offsets : Offsets
offsets = record { order = in_order; values = λ kind b. each kind b (fields (decoded_as kind b)) (all kind b) }
