-- What a `BookLayout` is. The calls ask nothing: both kinds' layouts meet this.
-- Assumes nothing.
use Rattle.std.specs.Prelude.{◌^◌, ◌≤◌, ◌<◌}
use Rattle.layout.specs.declared.offsets.Layout.{Layout}
use Rattle.layout.specs.Layout.{bytes_for}

pub record Usable (l : Layout) : Type 0 where
  -- a size has up to four bytes, and they hold the largest capacity
  pub narrow : l.width ≤ 4
  pub held : l.largest < 256 ^ l.width
  -- the largest book has fewer than 2³² bytes
  pub addressed : bytes_for l l.largest < 4_294_967_296
