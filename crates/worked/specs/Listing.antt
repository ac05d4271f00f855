-- The listing. 01, "Sheets worked by hand".
-- Assumes nothing.
use Rattle.std.specs.Prelude.{ℕ, ◌*◌, ◌≡◌, List, [], ◌++◌, length}
use Rattle.text.specs.Text.{ascii}
use Rattle.listing_text.specs.Listing.{lines_of, listing}
use Rattle.worked.specs.Sheets.{sheet_f, sheet_g}

pub record WorkedListing : Type 0 where
  -- "For F then G it prints in full"
  pub f_then_g :
      listing (sheet_f 2 800 ++ sheet_g) ≡
      (ascii "line shape mm loss surface upto\n" ++ ascii "7 flat 50 within within 30.0\n" ++ ascii "9 refused 18\n")
  -- "The header always stands first, also for empty input."
  pub empty : listing [] ≡ ascii "line shape mm loss surface upto\n"
  -- "reads sheets one after another": after n whole sheets the listing goes on with the lines of what follows, so it may be printed in blocks
  pub in_blocks : (sheets later : List ℕ) (n : ℕ) → length sheets ≡ 24 * n → listing (sheets ++ later) ≡ listing sheets ++ lines_of later
