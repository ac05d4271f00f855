-- The refusals that filing and reading share. 01, "Sent back because of the book"; "with 31 and 32 restated for the larger sizes" (02, N7).
-- Assumes nothing.
use Rattle.std.specs.Prelude.{ℕ, Bool, not, ◌||◌, List, [], ◌∷◌, ltb, eqb, length}
use Rattle.refusals.specs.declared.Refusal.TheVariants.{BookSize, CountAboveCapacity}
use Rattle.refusals.specs.Numbers.{number_of}
use Rattle.refusals.specs.Range.{outside}
use Rattle.refusals.specs.Cases.{Case, case}
use Rattle.layout.specs.declared.offsets.Layout.{Layout}
use Rattle.layout.specs.Layout.{header, bytes_for}
use Rattle.layout.specs.Sizes.{capacity, count}

module _ (l : Layout) where
  -- "31: under 4 bytes, c outside 1 to 1,000, or length not 4 + 32c."; for a larger book under 10 bytes, c outside 1 to 100,000, or
  -- length not 10 + 34c
  abbrev pub wrong_size : ℕ → ℕ → Bool
  wrong_size size c = ltb size (header l) || (outside c 1 l.largest || not (eqb size (bytes_for l c)))

  -- of every book that is filed in or read
  abbrev pub book_cases : List ℕ → List Case
  book_cases b =
      case (number_of BookSize) (wrong_size (length b) (capacity l b)) ∷
      -- "32: n above c."
      case (number_of CountAboveCapacity) (ltb (capacity l b) (count l b)) ∷
      []
