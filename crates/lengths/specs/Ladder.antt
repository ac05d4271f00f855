-- The ladder. 01, "Ladder and figures": "The ladder has rungs 0, 10, 20 and so on to 300 mm (10 mm grades: source document 000, 8.1.1.2)."
-- Assumes nothing.
use Rattle.std.specs.Prelude.{ℕ, ◌+◌, ◌*◌, ◌/◌, min}
use Rattle.lengths.specs.declared.units.Thickness.{Thickness}
use Rattle.lengths.specs.Units.{millimetres}

abbrev pub grade : ℕ
grade = 10

abbrev pub top : ℕ
top = 300

-- how many rungs there are
abbrev pub rungs : ℕ
rungs = top / grade + 1

-- the thickness of the rung with index r; an index above the last rung's means the last rung
abbrev pub thickness_at : ℕ → Thickness
thickness_at r = millimetres (grade * min r (top / grade))
