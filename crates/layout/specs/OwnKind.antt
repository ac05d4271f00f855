-- Which kind a book is. 02, N7.
-- Assumes nothing.
use Rattle.std.specs.Prelude.{ℕ, Bool, not, ◌&&◌, cond, List, ltb, eqb, length}
use Rattle.big_endian.specs.Bytes.{big_endian}
use Rattle.kinds.specs.declared.Kind.{Kind}
use Rattle.kinds.specs.declared.Kind.TheVariants.{Standard, Larger}
use Rattle.layout.specs.declared.offsets.Layout.{Layout}
use Rattle.layout.specs.Layout.{layout_of}

-- "The larger book starts with two zero bytes"
abbrev pub starts_with_zeros : List ℕ → Bool
starts_with_zeros b = not (ltb (length b) 2) && eqb (big_endian b 0 2) 0

-- "The new reader takes both kinds by their first two bytes". One of fewer bytes is refused with 31 in either kind.
unfoldable pub own_kind : List ℕ → Kind
own_kind b = cond (starts_with_zeros b) Larger Standard

-- the layout that a book's own bytes tell
abbrev pub own_layout : List ℕ → Layout
own_layout b = layout_of (own_kind b)
