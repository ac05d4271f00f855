-- The ladder's rungs. 01, "Ladder and figures": "The ladder has rungs 0, 10, 20 and so on to 300 mm".
-- Assumes nothing.
use Rattle.std.specs.Prelude.{ℕ, ◌+◌, ◌≤◌, ◌<◌, ◌≡◌}
use Rattle.lengths.specs.Units.{millimetres}
use Rattle.lengths.specs.Ladder.{rungs, thickness_at}

pub record LadderRungs : Type 0 where
  pub first : thickness_at 0 ≡ millimetres 0
  pub next : (r : ℕ) → r + 1 < rungs → (thickness_at (r + 1)).0 ≡ (thickness_at r).0 + 10
  pub last : (r : ℕ) → rungs ≤ r + 1 → (thickness_at r).0 ≡ 300
  pub count : rungs ≡ 31
