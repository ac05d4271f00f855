-- The limits. 01, "The answer: 8 bytes", and 02, N2; the codes of a service are in 01, "The sheet: 24 bytes", and in N2.
-- Assumes nothing.
use Rattle.std.specs.Prelude.{ℕ, ◌+◌, ◌-◌, ◌*◌, cond, ◌||◌, List, [], ◌∷◌, leb, eqb}
use Rattle.std.proofs.Math.Option.{Option, none, some}
use Rattle.std.proofs.Math.ListN.{get_elem?}
use Rattle.fractions.specs.Fraction.{◌over◌}
use Rattle.fractions.specs.Rounding.{floor}
use Rattle.temperatures.specs.declared.Temperature.{Temperature}
use Rattle.temperatures.specs.Temperature.{tenths_celsius}

pub record Row : Type 0 where
  pub temperature : Temperature
  pub year_round : ℕ
  pub seasonal : ℕ

-- a row by its temperature in °C
abbrev pub row : ℕ → ℕ → ℕ → Row
row t y s = record { temperature = tenths_celsius (10 * t); year_round = y; seasonal = s }

-- "Limits in W/m² by t in °C (001, table 5.1.1), year-round / seasonal", 0 where none is printed
abbrev pub table : List Row
table =
    row 50 58 116 ∷ row 100 93 163 ∷ row 150 116 203 ∷ row 200 140 244 ∷ row 250 163 273 ∷ row 300 186 296 ∷ row 350 209 308 ∷
    row 400 227 314 ∷ row 450 244 0 ∷ row 500 262 0 ∷ row 550 279 0 ∷ row 600 296 0 ∷ row 650 314 0 ∷ []

-- row i of the table, the first being row 0
abbrev pub row_at : ℕ → Option Row
row_at i = get_elem? table i

-- "1 year-round, 2 seasonal", "service 3 (year-round) or 4 (seasonal)". Every other code is refused with 12.
abbrev pub column : ℕ → Row → ℕ
column service r = cond (eqb service 1 || eqb service 3) r.year_round r.seasonal

-- a row's limit, "in tenths of W/m²"
abbrev pub limit_of : ℕ → Row → ℕ
limit_of service r = 10 * column service r

-- the row at or below a temperature and the next one, each of which may be missing
pub record Neighbours : Type 0 where
  pub below : Option Row
  pub above : Option Row

-- "The row is the highest one not above t.", and with it the next one. The rows rise, so the search ends at the first that is above t;
-- `below` is the row before those that are left.
unfoldable pub neighbours : Temperature → Option Row → List Row → Neighbours
neighbours t below [] = record { below = below; above = none }
neighbours t below (r ∷ higher) =
    cond (leb r.temperature.0 t.0) (neighbours t (some r) higher) (record { below = below; above = some r })

-- "a straight line between neighbouring rows", "rounded down": from low to high over a width, at a distance beyond its start. Where one of
-- the two is not printed there is none: "Seasonal at 400.0 gives 314; above it none is printed."
abbrev pub interpolated : ℕ → ℕ → ℕ → ℕ → ℕ
interpolated low high width beyond = cond (eqb low 0 || eqb high 0) 0 (floor ((low * (width - beyond) + high * beyond) over width))

-- the limit beyond a row, on the line to the next one; none is printed beyond the last row
abbrev pub limit_beyond : ℕ → Temperature → Row → Option Row → ℕ
limit_beyond service t low none = 0
limit_beyond service t low (some high) =
    interpolated (limit_of service low) (limit_of service high) (high.temperature.0 - low.temperature.0) (t.0 - low.temperature.0)

-- with no row at or below t: "Below 50.0, or seasonal from 450.0, none is printed." Else "Services 1 and 2 keep the row below"; services 3
-- and 4 have that row's limit at its temperature, and beyond it the straight line.
abbrev pub limit_from : ℕ → Temperature → Option Row → Option Row → ℕ
limit_from service t none above = 0
limit_from service t (some low) above =
    cond (leb service 2 || eqb t.0 low.temperature.0) (limit_of service low) (limit_beyond service t low above)

-- the limit in tenths of W/m², 0 where none is printed
unfoldable pub loss_limit : ℕ → Temperature → ℕ
loss_limit service t = let rows = neighbours t none table in limit_from service t rows.below rows.above

-- "Surface limit: 50.0 °C for ta up to 27.0, else ta + 25.0 (001, 3.0.5)."
abbrev pub surface_limit : Temperature → Temperature
surface_limit ta = cond (leb ta.0 (tenths_celsius 270).0) (tenths_celsius 500) (record { 0 = ta.0 + 250 })
