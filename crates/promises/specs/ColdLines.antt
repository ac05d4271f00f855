-- What is promised of cold lines, beside the demands and `SurfaceBound`, which speak of every goal. 02, N4.
-- Assumes nothing.
use Rattle.std.specs.Prelude.{ℕ, ◌≤◌, ◌≡◌, ◌⊎◌, false, List, length, get_or}
use Rattle.temperatures.specs.Temperature.{decoded as signed}
use Rattle.refusals.specs.Response.{complete}
use Rattle.big_endian.specs.Bytes.{big_endian}
use Rattle.heat_flow.specs.declared.HeatFlow.TheVariants.{Outward, Inward}
use Rattle.sheet.specs.declared.fields.GoalCode.TheVariants.{ForEconomy}
use Rattle.sheet.specs.declared.fields.Sheet.{Sheet}
use Rattle.sheet.specs.Sheet.{decoded, goal_of}
use Rattle.sheet.specs.Search.{requirement_of}
use Rattle.sheet.specs.Passes.{chosen}
use Rattle.sheet.specs.Refusals.{response_to}

-- the bytes of a sheet of goal 4 or 5, and those of its answer
pub record ColdAnswer (sheet bytes : List ℕ) : Type 0 where
  pub cold : (get_or sheet 0 0 ≡ 4) ⊎ (get_or sheet 0 0 ≡ 5)
  pub answered : response_to sheet ≡ complete bytes

-- a cold economy sheet and the hot one with t and ta exchanged; neither is of goal 6 or 7
pub record Exchanged (cold hot : Sheet) : Type 0 where
  pub inward : cold.flow ≡ Inward
  pub outward : hot.flow ≡ Outward
  pub economy : (cold.goal ≡ ForEconomy) × (hot.goal ≡ ForEconomy)
  pub one_pass : (cold.respects_limit ≡ false) × (hot.respects_limit ≡ false)
  pub no_jacket : (cold.counts_jacket ≡ false) × (hot.counts_jacket ≡ false)
  pub temperatures : (cold.temperature ≡ hot.ambient) × (cold.ambient ≡ hot.temperature)
  pub same_line : cold.line ≡ hot.line
  pub same_terms : cold.economy ≡ hot.economy

pub record ColdLines : Type 0 where
  -- "Both checks of a cold sheet read 0 for surface and 3 for loss.", in the eight bytes
  pub checks : (sheet bytes : List ℕ) → ColdAnswer sheet bytes → (length bytes ≡ 8) × (get_or bytes 5 0 ≡ 0) × (get_or bytes 4 0 ≡ 3)
  -- the surface bound is "never below t", and not above ta
  pub bound_between :
      (sheet bytes : List ℕ) → ColdAnswer sheet bytes → let bound = (signed (big_endian bytes 6 2)).0 in
      ((decoded sheet).temperature.0 ≤ bound) × (bound ≤ (decoded sheet).ambient.0)
  -- "demand 3 judges a chilled line's thickness just as on steam": by the same requirement, so that the thickness is the same
  pub as_on_steam : (cold hot : Sheet) → Exchanged cold hot → (requirement_of cold (goal_of cold) ≡ requirement_of hot (goal_of hot)) × (chosen cold ≡ chosen hot)
