-- Books of which neither 31 nor 32 holds.
-- Assumes nothing.
use mathlib.Core.Path.{◌≡◌, refl}
use mathlib.Core.Bool.{false}
use mathlib.Core.List.{List}
use Prim.Native.Nat.{ℕ, ◌≤◌}
use native.Mathlib.Omega.{arith}
use lib.Dec.{ltb}
use lib.ListN.{length}
use borrow.Author.Tests.{ltb-false, le-ltb, eqb-true, eq-eqb, not-false}
use Rattle.std.proofs.lemmas.Bool.{or_parts}
use Rattle.refusals.specs.Cases.{NoneHolds}
use Rattle.refusals.specs.Range.{outside}
use Rattle.refusals.proofs.Range.{inside}
use Rattle.layout.specs.declared.offsets.Layout.{Layout}
use Rattle.layout.specs.declared.examination.Sizes.{Sizes}
use Rattle.layout.specs.Layout.{header, bytes_for}
use Rattle.layout.specs.Sizes.{capacity, count}
use Rattle.layout.specs.Refusals.{wrong_size, book_cases}
use Rattle.layout.specs.Usable.{Usable}
use Rattle.layout.specs.SoundBook.{SoundBook}

module _ (l : Layout) where
  pub right_size : (size c : ℕ) → wrong_size l size c ≡ false → (1 ≤ c) × (c ≤ l.largest) × (size ≡ bytes_for l c)
  right_size size c e =
      let rest = or_parts (outside c 1 l.largest) _ (or_parts (ltb size (header l)) _ e).1 in
      let ends = inside c 1 l.largest rest.0 in
      (ends.0, ends.1, eqb-true _ _ (not-false _ rest.1))

  module _ (b : List ℕ) where
    pub sound : (sizes : Sizes) → Usable l → NoneHolds (book_cases l b) → sizes.capacity ≡ capacity l b → sizes.count ≡ count l b → SoundBook l b sizes
    unfolding NoneHolds
    sound sizes usable none c-is n-is =
        let known = right_size (length b) sizes.capacity (rw c-is none.0) in
        record { usable = usable; capacity_is = c-is; count_is = n-is; some = known.0; most = known.1; size = known.2; counted = ltb-false _ _ (rw (c-is, n-is) none.1.0) }

    pub unrefused : {sizes : Sizes} → SoundBook l b sizes → NoneHolds (book_cases l b)
    unfolding NoneHolds
    unrefused is =
        rw (← is.capacity_is, ← is.count_is)
        (let short : ltb (length b) (header l) ≡ false = le-ltb (length b) (header l) (omega arith) in
        rw (short, le-ltb _ _ is.some, le-ltb _ _ is.most, eq-eqb _ _ is.size) (refl, (le-ltb _ _ is.counted, tt)))
