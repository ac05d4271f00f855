-- Diameters and thicknesses. 01, "Ladder and figures": "A diameter counts tenths of a millimetre and a thickness counts whole
-- millimetres; neither is added to the other without its factor."
-- Assumes nothing.
use Rattle.std.specs.Prelude.{ℕ, ◌+◌, ◌*◌}
use Rattle.lengths.specs.declared.units.Diameter.{Diameter}
use Rattle.lengths.specs.declared.units.Thickness.{Thickness}

abbrev pub tenths : ℕ → Diameter
tenths d = record { 0 = d }

abbrev pub millimetres : ℕ → Thickness
millimetres k = record { 0 = k }

-- "On a cylinder a rung of k mm has outer diameter E = D + 20k."
abbrev pub outer_diameter : Diameter → Thickness → Diameter
outer_diameter D k = tenths (D.0 + 20 * k.0)
