-- The fields of a sheet. 01, "The sheet: 24 bytes", and 02, N4 to N7.
-- Assumes nothing.
use Rattle.std.specs.Prelude.{ℕ, ◌+◌, Bool, true, false, cond, ◌||◌, List, eqb, get_or}
use Rattle.big_endian.specs.Bytes.{big_endian}
use Rattle.kinds.specs.declared.Kind.{Kind}
use Rattle.kinds.specs.declared.Kind.TheVariants.{Standard}
use Rattle.kinds.specs.Kind.{longer, moved}
use Rattle.lengths.specs.Units.{tenths}
use Rattle.temperatures.specs.declared.Temperature.{Temperature}
use Rattle.temperatures.specs.Temperature.{decoded as signed}
use Rattle.heat_flow.specs.declared.HeatFlow.{HeatFlow}
use Rattle.heat_flow.specs.declared.HeatFlow.TheVariants.{Outward, Inward}
use Rattle.heat_flow.specs.HeatFlow.{temperature_difference}
use Rattle.requirement.specs.declared.Goal.{Goal}
use Rattle.requirement.specs.declared.Goal.TheVariants.{Economy, Loss, Surface}
use Rattle.sheet.specs.declared.fields.GoalCode.{GoalCode}
use Rattle.sheet.specs.declared.fields.GoalCode.TheVariants.{ForEconomy, ForLoss, ForSurface}
use Rattle.sheet.specs.declared.fields.Sheet.{Sheet}

-- "1 economy, 2 loss, 3 surface"; "Goal 4 is cold surface", "goal 5 is cold economy" (02, N4); "Goal 6 is goal 1 with that second pass"
-- (02, N5); goal 7 takes another economy formula (02, N6). Every other code is refused with 12.
abbrev pub goal_code : ℕ → GoalCode
goal_code n = cond (eqb n 1 || eqb n 5 || eqb n 6 || eqb n 7) ForEconomy (cond (eqb n 2) ForLoss ForSurface)

-- goals 4 and 5 are those of "Cold lines" (02, N4)
abbrev pub flow_of : ℕ → HeatFlow
flow_of n = cond (eqb n 4 || eqb n 5) Inward Outward

-- goal 6 is that of "Economy that respects the loss limit" (02, N5)
abbrev pub respects_limit : ℕ → Bool
respects_limit n = eqb n 6

-- goal 7 takes "the DL/T 5072 economy formula, 5.2.1-2, which counts the jacket by the square metre" (02, N6)
abbrev pub counts_jacket : ℕ → Bool
counts_jacket n = eqb n 7

module _ (kind : Kind) (b : List ℕ) where
  -- "2–3": the "line number", which no other figure depends on; "The sheet's line number grows to four bytes" (02, N7)
  abbrev pub line_number_as : ℕ
  line_number_as = big_endian b 2 (2 + longer kind)

  -- a field of two bytes behind the line number, by its offset in the table
  abbrev pub field : ℕ → ℕ
  field offset = big_endian b (moved kind offset) 2

  -- the other fields at the table's offsets
  unfoldable pub decoded_as : Sheet
  decoded_as =
      record {
        code = get_or b 0 0;
        goal = goal_code (get_or b 0 0);
        flow = flow_of (get_or b 0 0);
        respects_limit = respects_limit (get_or b 0 0);
        counts_jacket = counts_jacket (get_or b 0 0);
        service = get_or b 1 0;
        line = record { diameter = tenths (field 4); conductivity = field 10; coefficient = field 12 };
        temperature = signed (field 6);
        ambient = signed (field 8);
        economy = record { heat = field 14; hours = field 16; insulation = field 18; share = field 20 };
        aim = field 22;
      }

-- those of a standard sheet
abbrev pub line_number : List ℕ → ℕ
line_number = line_number_as Standard

abbrev pub decoded : List ℕ → Sheet
decoded = decoded_as Standard

-- "Offsets 14–21 are used for goal 1 only"; "Goal 5 uses offsets 14–21 as goal 1 does and its aim is zero." (02, N4); "Goal 6 is goal 1
-- with that second pass; its aim is zero." (02, N5); goal 7 takes its formula "beside goal 1's fields" (02, N6)
abbrev pub uses_economy : GoalCode → Bool
uses_economy ForEconomy = true
uses_economy ForLoss = false
uses_economy ForSurface = false

-- "The aim is zero for goal 1.", and for goals 5 and 6; for goal 7 "the jacket price in yuan/m²" is "in the aim field" (02, N6)
abbrev pub uses_aim : (counts_jacket : Bool) → GoalCode → Bool
uses_aim counts_jacket ForEconomy = counts_jacket
uses_aim counts_jacket ForLoss = true
uses_aim counts_jacket ForSurface = true

-- Δ: "t − ta", and "ta − t" on a cold line
abbrev pub difference : Sheet → ℕ
difference s = temperature_difference s.flow s.temperature s.ambient

-- a surface aim, which is signed
abbrev pub surface_aim : Sheet → Temperature
surface_aim s = signed s.aim

-- a goal with what it uses; s: "aim − ta", and "ta − aim" on a cold line
abbrev pub goal_with : Sheet → GoalCode → Goal
goal_with s ForEconomy = Economy s.economy
goal_with s ForLoss = Loss s.aim
goal_with s ForSurface = Surface (temperature_difference s.flow (surface_aim s) s.ambient)

-- the sheet's own goal
abbrev pub goal_of : Sheet → Goal
goal_of s = goal_with s s.goal
