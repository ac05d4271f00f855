-- A sound book with its sizes: what a `Book` is, and what `enter` asks for.
-- Assumes nothing.
use Rattle.std.specs.Prelude.{ℕ, ◌≤◌, ◌≡◌, List, length}
use Rattle.layout.specs.declared.offsets.Layout.{Layout}
use Rattle.layout.specs.declared.examination.Sizes.{Sizes}
use Rattle.layout.specs.Layout.{bytes_for}
use Rattle.layout.specs.Sizes.{capacity, count}
use Rattle.layout.specs.Usable.{Usable}

pub record SoundBook (l : Layout) (b : List ℕ) (sizes : Sizes) : Type 0 where
  pub usable : Usable l
  -- the sizes are those that the book states
  pub capacity_is : sizes.capacity ≡ capacity l b
  pub count_is : sizes.count ≡ count l b
  -- neither 31 nor 32 holds of it
  pub some : 1 ≤ sizes.capacity
  pub most : sizes.capacity ≤ l.largest
  pub size : length b ≡ bytes_for l sizes.capacity
  pub counted : sizes.count ≤ sizes.capacity
