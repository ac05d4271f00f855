-- What listing a block comes to, and listing all.
-- Assumes nothing.
use Rattle.std.specs.Prelude.{◌≡◌, ℕ, ◌*◌, ◌^◌, ◌<◌, Bool, true, false, List, length, Option, IfSome}
use Rattle.std.specs.Io.KnownBytes.{Appends, Consumes, IsAtEnd}
use Rattle.listing_text.specs.Listing.{lines_of, listing}

-- the lines of what was read are written: of a block of 512 sheets where more may follow, and else of all that was left
pub record ListsBlock (left rest held written : Option (List ℕ)) (more : Bool) : Type 0 where
  pub sheets : List ℕ
  pub read : Consumes left rest sheets
  pub listed : Appends held written (lines_of sheets)
  pub full : more ≡ true → length sheets ≡ 512 * 24
  pub end : more ≡ false → IsAtEnd rest

-- the listing of all that was left is written; no run reads 2^64 bytes
unfoldable pub ListsAll : (left held written : Option (List ℕ)) → Type 0
ListsAll left held written = IfSome left (λ input. length input < 2 ^ 64 → Appends held written (listing input))
