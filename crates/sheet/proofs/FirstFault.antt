-- The first fault of the fields as they are searched, and lists in which there is none.
-- Assumes nothing.
use mathlib.Core.Path.{◌≡◌, refl, sym}
use mathlib.Core.Bool.{Bool, true, false, cond, ◌&&◌, and-false, true≢false}
use mathlib.Core.List.{List, [], ◌∷◌, ◌++◌}
use Prim.Native.Nat.{ℕ, ◌≤◌}
use lib.Dec.{eqb}
use borrow.Author.Tests.{eq-eqb, ne_eqb}
use Rattle.std.proofs.lemmas.List.{append-nil}
use Rattle.std.proofs.lemmas.List.Folds.{find-append}
use Rattle.std.specs.Prelude.{Option, Some, None, is_some, option_map, find, if◌then◌else◌}
use Rattle.std.specs.Option.{option_or}
use Rattle.refusals.specs.Numbers.{number_of}
use Rattle.refusals.specs.Range.{outside}
use Rattle.refusals.proofs.Range.{inside as within}
use Rattle.sheet.specs.declared.fields.Sheet.{Sheet}
use Rattle.sheet.specs.declared.faults.Field.{Field}
use Rattle.sheet.specs.Fields.{unused, economy_fields, aim_fields, first_fault}

or_none : (o : Option Field) → option_or o None ≡ o
or_none None = refl
or_none (Some f) = refl

-- An aim that the goal uses is no fault.
pub aim_at_end :
    (n : ℕ) (s : Sheet) (used : Bool) (fs : List Field) →
    first_fault n (fs ++ unused 22 (if used then 0 else s.aim) ∷ []) ≡ first_fault n (fs ++ aim_fields used s)
unfolding first_fault
aim_at_end n s true fs = rw (find-append, append-nil, and-false, or_none)
aim_at_end n s false fs = refl

-- The fields that only some goals use: none of them is a code, and an aim has no range.
module _ (s : Sheet) where
  pub no_codes : (economy aim : Bool) → first_fault 12 (economy_fields economy s ++ aim_fields aim s) ≡ None
  unfolding first_fault
  no_codes true true = refl
  no_codes true false = refl
  no_codes false true = refl
  no_codes false false = refl

  pub own_ranges : (economy aim : Bool) → first_fault 13 (economy_fields economy s ++ aim_fields aim s) ≡ first_fault 13 (economy_fields economy s)
  unfolding first_fault
  own_ranges true true = refl
  own_ranges true false = refl
  own_ranges false true = refl
  own_ranges false false = refl

-- No fault of a refusal in a field and in those behind it: the field, if it is one of that refusal, is inside its range.
pub record Inside (n : ℕ) (f : Field) (fs : List Field) : Type 0 where
  pub least : f.least ≤ f.value
  pub most : f.value ≤ f.most
  pub rest : is_some (first_fault n fs) ≡ false

module _ (n : ℕ) (f : Field) (fs : List Field) (none : is_some (first_fault n (f ∷ fs)) ≡ false) where
  pub inside : number_of f.refusal ≡ n → Inside n f fs
  unfolding first_fault
  inside of-it = go (outside f.value f.least f.most) refl (rw (eq-eqb n (number_of f.refusal) (sym of-it)) at none)
    where
      go :
          (b : Bool) → outside f.value f.least f.most ≡ b →
          is_some (option_map (λ (f : Field). f.offset) (cond b (Some f) (find (λ (f : Field). eqb n (number_of f.refusal) && outside f.value f.least f.most) fs))) ≡ false →
          Inside n f fs
      go true e h = absurd (true≢false h)
      go false e h =
          let ends = within f.value f.least f.most e in
          record { least = ends.0; most = ends.1; rest = h }

  pub behind : ¬ (n ≡ number_of f.refusal) → is_some (first_fault n fs) ≡ false
  unfolding first_fault
  behind other = rw (ne_eqb n (number_of f.refusal) other) at none

-- No fault in a list: none in its first part.
found_or : (o p : Option Field) → is_some (option_map (λ (f : Field). f.offset) (option_or o p)) ≡ false → is_some (option_map (λ (f : Field). f.offset) o) ≡ false
found_or None p e = refl
found_or (Some f) p e = e

pub none_before : (n : ℕ) (fs gs : List Field) → is_some (first_fault n (fs ++ gs)) ≡ false → is_some (first_fault n fs) ≡ false
unfolding first_fault
none_before n fs gs e = found_or _ _ (rw find-append at e)
