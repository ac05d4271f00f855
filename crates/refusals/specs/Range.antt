-- A number outside its range.
-- Assumes nothing.
use Rattle.std.specs.Prelude.{ℕ, Bool, ◌||◌, ltb}

abbrev pub outside : ℕ → ℕ → ℕ → Bool
outside x least most = ltb x least || ltb most x
