-- Both kinds of sheets and books beside each other.
-- Assumes nothing.
use mathlib.Core.Path.{◌≡◌, refl, ap, ◌∙◌}
use mathlib.Core.Bool.{true, false, and-eq-true_iff, and-false, or-true}
use mathlib.Core.List.{List, ◌∷◌}
use Prim.Native.Nat.{ℕ, suc}
use Prim.Native.Nat.compare
use native.Mathlib.Omega.{arith}
use lib.Dec.{eqb, compare_is_eq}
use lib.ListN.{length}
use borrow.Author.Tests.{eqb-true, ne_eqb}
use Rattle.refusals.specs.Cases.{NoneHolds}
use Rattle.refusals.specs.Response.{respond}
use Rattle.big_endian.specs.Bytes.{big_endian, bytes_of}
use Rattle.big_endian.proofs.Numerals.{number_bytes}
use Rattle.kinds.specs.declared.Kind.{Kind}
use Rattle.kinds.specs.declared.Kind.TheVariants.{Standard, Larger}
use Rattle.sheet.specs.Sheet.{decoded_as}
use Rattle.sheet.specs.Refusals.{response_as, response_to}
use Rattle.layout.specs.Layout.{standard, larger, layout_of}
use Rattle.layout.specs.OwnKind.{starts_with_zeros, own_kind}
use Rattle.layout.specs.Sizes.{capacity}
use Rattle.layout.specs.Refusals.{wrong_size, book_cases}
use Rattle.layout.proofs.Soundness.{right_size}
use Rattle.promises.specs.BothKinds.{LargerSheets, OldReader, TakenIn, BothKinds}

-- a length is 26 where the one without two bytes is 24
two_less : (n : ℕ) → eqb (suc (suc n)) 26 ≡ eqb n 24
two_less n = ap compare_is_eq (compare.suc-suc (suc n) 25 ∙ compare.suc-suc n 24)

module _ (goal service n₁ n₂ m₁ m₂ m₃ m₄ : ℕ) (rest : List ℕ) where
  same_fields : decoded_as Larger (goal ∷ service ∷ m₁ ∷ m₂ ∷ m₃ ∷ m₄ ∷ rest) ≡ decoded_as Standard (goal ∷ service ∷ n₁ ∷ n₂ ∷ rest)
  unfolding big_endian decoded_as
  same_fields = refl

  same_response : response_as Larger (goal ∷ service ∷ m₁ ∷ m₂ ∷ m₃ ∷ m₄ ∷ rest) ≡ response_to (goal ∷ service ∷ n₁ ∷ n₂ ∷ rest)
  same_response = rw (same_fields, two_less (length (goal ∷ service ∷ n₁ ∷ n₂ ∷ rest))) refl

larger_sheets : LargerSheets
unfolding big_endian bytes_of
larger_sheets =
    record {
      size = refl;
      numbers = λ goal service n rest lt. number_bytes 4 n lt;
      as_standard = λ goal service n₁ n₂ m₁ m₂ m₃ m₄ rest. (same_fields goal service n₁ n₂ m₁ m₂ m₃ m₄ rest, same_response goal service n₁ n₂ m₁ m₂ m₃ m₄ rest);
    }

module _ (book : List ℕ) where
  taken : (kind : Kind) → own_kind book ≡ kind → TakenIn (layout_of kind) book
  taken kind own = record { same_filing = λ sheet. rw own (refl, refl); same_reading = λ n. rw own refl }

  as_before : starts_with_zeros book ≡ false → TakenIn standard book
  unfolding own_kind
  as_before e = taken Standard (rw e refl)

  as_larger : starts_with_zeros book ≡ true → TakenIn larger book
  unfolding own_kind
  as_larger e = taken Larger (rw e refl)

  old_reader : starts_with_zeros book ≡ true → OldReader book
  unfolding respond
  old_reader e =
      let none : capacity standard book ≡ 0 = eqb-true _ _ ((and-eq-true_iff _ _).0 e).1 in
      let damaged : wrong_size standard (length book) (capacity standard book) ≡ true = rw none (or-true _) in
      record { no_capacity = none; no_filing = λ sheet. rw damaged (refl, refl); no_reading = λ n. rw damaged refl }

  told_standard : NoneHolds (book_cases standard book) → starts_with_zeros book ≡ false
  unfolding NoneHolds
  told_standard none =
      let some = (right_size standard (length book) (capacity standard book) none.0).0 in
      rw (ne_eqb (capacity standard book) 0 (λ e. omega arith)) (and-false _)

pub both_kinds : BothKinds
both_kinds =
    record {
      larger_sheets = larger_sheets;
      restated = λ book. refl;
      slots = λ c e. (refl, refl);
      as_larger = λ book e. (old_reader book e, as_larger book e);
      as_before = as_before;
      sound_standard = λ book none. as_before book (told_standard book none);
    }
