-- The table of loss limits as one flat list. 02, N3.
-- Assumes nothing.
use Rattle.std.specs.Prelude.{ℕ, ◌+◌, ◌*◌, ◌%◌, ◌≤◌, ◌<◌, ◌≡◌, List, [], ◌∷◌, flat_map, length, get_or}
use Rattle.std.proofs.Math.Option.{some}
use Rattle.limits.specs.Limits.{Row, table, row_at, column}

-- "a single run of 26 numbers with the columns side by side: row by row, year-round before seasonal, 0 where none is printed"
abbrev pub flat_table : List ℕ
flat_table = flat_map (λ (r : Row). r.year_round ∷ r.seasonal ∷ []) table

-- "find the place by arithmetic on row and service": the first row is row 0, and a year-round service is odd
abbrev pub place : ℕ → ℕ → ℕ
place row service = 2 * row + (service + 1) % 2

-- what is promised of the list
pub record Placement : Type 0 where
  -- "26 numbers", and the place of every row lies in the list
  pub size : length flat_table ≡ 26
  pub within : (row service : ℕ) → row < length table → place row service < 26
  -- "for every row and all four services it holds the printed limit, or 0"
  pub holds :
      (row service : ℕ) (r : Row) → row_at row ≡ some r → 1 ≤ service → service ≤ 4 →
      get_or flat_table (place row service) 0 ≡ column service r
