-- The ranges of a sheet's fields, and the first field that is outside its range. 01, "The sheet: 24 bytes", and 02, N2 and N4 to N6.
-- Assumes nothing.
use Rattle.std.specs.Prelude.{ℕ, ◌+◌, ◌-◌, Bool, true, false, ◌&&◌, List, [], ◌∷◌, ◌++◌, eqb, Option, option_map, find}
use Rattle.refusals.specs.declared.Refusal.TheVariants.{UnknownCode, OutOfRange, NotZero}
use Rattle.refusals.specs.Numbers.{number_of}
use Rattle.refusals.specs.Range.{outside}
use Rattle.temperatures.specs.Temperature.{zero_degrees}
use Rattle.heat_flow.specs.HeatFlow.{least_temperature}
use Rattle.sheet.specs.declared.faults.Field.{Field}
use Rattle.sheet.specs.declared.fields.Sheet.{Sheet}
use Rattle.sheet.specs.Sheet.{uses_economy, uses_aim}

-- "12: goal or service code unknown."
abbrev pub coded : ℕ → ℕ → ℕ → ℕ → Field
coded o x l m = record { refusal = UnknownCode; offset = o; value = x; least = l; most = m }

-- "13: a field outside its range."
abbrev pub ranged : ℕ → ℕ → ℕ → ℕ → Field
ranged o x l m = record { refusal = OutOfRange; offset = o; value = x; least = l; most = m }

-- "14: an unused field not zero, or goal 1 with an aim not zero."; goals 5 and 6 are like goal 1 here; goal 7 uses its aim
abbrev pub unused : ℕ → ℕ → Field
unused o x = record { refusal = NotZero; offset = o; value = x; least = 0; most = 0 }

-- "1 economy, 2 loss, 3 surface", "1 year-round, 2 seasonal", "service 3 (year-round) or 4 (seasonal)" (02, N2), "Goal 4 is cold surface",
-- "goal 5 is cold economy" (02, N4), and goals 6 (02, N5) and 7 (02, N6)
abbrev pub codes : Sheet → List Field
codes s = coded 0 s.code 1 7 ∷ coded 1 s.service 1 4 ∷ []

-- D, t, ta, L and α
abbrev pub line_fields : Sheet → List Field
line_fields s =
    ranged 4 s.line.diameter.0 100 65_535 ∷
    ranged 6 s.temperature.0 (least_temperature s.flow) (zero_degrees + 6_500) ∷
    ranged 8 s.ambient.0 (zero_degrees - 500) (zero_degrees + 500) ∷
    ranged 10 s.line.conductivity 1 2_000 ∷
    ranged 12 s.line.coefficient 100 10_000 ∷ []

-- a field that a goal uses or not: "zero otherwise, their ranges then not applying"
abbrev pub used_if : Bool → ℕ → ℕ → ℕ → ℕ → Field
used_if true o x l m = ranged o x l m
used_if false o x l m = unused o x

-- f, τ, P and S: "Offsets 14–21 are used for goal 1 only and are zero otherwise"; goal 5 uses them "as goal 1 does" (02, N4), and so do
-- goals 6 and 7
abbrev pub economy_fields : Bool → Sheet → List Field
economy_fields used s =
    used_if used 14 s.economy.heat 1 65_535 ∷
    used_if used 16 s.economy.hours 1 8_784 ∷
    used_if used 18 s.economy.insulation 1 65_535 ∷
    used_if used 20 s.economy.share 1 10_000 ∷ []

-- "The aim is zero for goal 1.", and for goals 5 (02, N4) and 6 (02, N5). The aim of goals 2 to 4 is judged by 16, and that of goal 7 may
-- be any, "0 to 65,535" (02, N6).
abbrev pub aim_fields : Bool → Sheet → List Field
aim_fields true s = []
aim_fields false s = unused 22 s.aim ∷ []

abbrev pub fields : Sheet → List Field
fields s = codes s ++ line_fields s ++ economy_fields (uses_economy s.goal) s ++ aim_fields (uses_aim s.counts_jacket s.goal) s

-- the first field of a list that is outside its range, of those of the refusal n, by its offset
unfoldable pub first_fault : ℕ → List Field → Option ℕ
first_fault n fs = option_map (λ (f : Field). f.offset) (find (λ (f : Field). eqb n (number_of f.refusal) && outside f.value f.least f.most) fs)
