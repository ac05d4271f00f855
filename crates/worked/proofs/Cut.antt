-- A listing goes on, block by block.
-- Assumes nothing.
use mathlib.Core.Path.{◌≡◌, sym, ap, ◌∙◌}
use mathlib.Core.List.{List, ◌++◌, append_assoc}
use Prim.Native.Nat.{ℕ, ◌*◌}
use lib.ListN.{length}
use Rattle.listing_text.specs.Listing.{lines_of, header, listing}
use Rattle.listing_text.proofs.Cut.{cut}

pub listing_cut : (a b : List ℕ) (n : ℕ) → length a ≡ 24 * n → listing (a ++ b) ≡ listing a ++ lines_of b
listing_cut a b n whole = ap (λ (text : List ℕ). header ++ text) (cut a b n whole) ∙ sym (append_assoc header (lines_of a) (lines_of b))
