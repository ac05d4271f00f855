-- What is sent back. 01, "Sent back because of the sheet", and 02, N5 to N7; N4: "Refusals 12 to 16 read these conditions for goals 4 and
-- 5".
-- Assumes nothing.
use Rattle.std.specs.Prelude.{ℕ, Bool, false, not, ◌&&◌, ◌||◌, List, [], ◌∷◌, ◌++◌, eqb, ltb, length, is_some}
use Rattle.kinds.specs.declared.Kind.{Kind}
use Rattle.kinds.specs.declared.Kind.TheVariants.{Standard}
use Rattle.kinds.specs.Kind.{sheet_size}
use Rattle.lengths.specs.Ladder.{rungs}
use Rattle.refusals.specs.declared.Refusal.{Refusal}
use Rattle.refusals.specs.declared.Refusal.TheVariants.{SheetLength, UnknownCode, OutOfRange, NotZero, NoDrivingDifference, InvalidAim, NotCylinder, NoneSufficient, TooClose}
use Rattle.refusals.specs.Numbers.{number_of}
use Rattle.refusals.specs.Cases.{Case, case}
use Rattle.refusals.specs.Response.{Response, respond}
use Rattle.verdict.specs.Verdict.{is_undecided}
use Rattle.heat_flow.specs.HeatFlow.{beyond}
use Rattle.sheet.specs.declared.fields.GoalCode.{GoalCode}
use Rattle.sheet.specs.declared.fields.GoalCode.TheVariants.{ForEconomy, ForLoss, ForSurface}
use Rattle.sheet.specs.declared.fields.Sheet.{Sheet}
use Rattle.sheet.specs.Sheet.{decoded_as, surface_aim}
use Rattle.sheet.specs.Fields.{fields, first_fault}
use Rattle.sheet.specs.Passes.{check_between, too_close, verdicts, chosen}
use Rattle.sheet.specs.Answer.{answer_as}

-- "goal 2 with aim 0; goal 3 unless ta < aim < t."; goal 4 unless "t < aim < ta" (02, N4)
abbrev pub aim_refused : Sheet → GoalCode → Bool
aim_refused s ForEconomy = false
aim_refused s ForLoss = eqb s.aim 0
aim_refused s ForSurface = not (beyond s.flow (surface_aim s) s.ambient && beyond s.flow s.temperature (surface_aim s))

-- a field of this refusal is outside its range
abbrev pub faulty : Sheet → Refusal → Bool
faulty s why = is_some (first_fault (number_of why) (fields s))

-- the cases of the fields' values
abbrev pub value_cases : Sheet → List Case
value_cases s =
    -- "12: goal or service code unknown."
    case (number_of UnknownCode) (faulty s UnknownCode) ∷
    -- "13: a field outside its range."
    case (number_of OutOfRange) (faulty s OutOfRange) ∷
    -- "14: an unused field not zero, or goal 1 with an aim not zero."; goals 5 and 6 are like goal 1 here; goal 7 uses its aim
    case (number_of NotZero) (faulty s NotZero) ∷
    -- "15: t not above ta."; for goals 4 and 5, for which "t is below ta" (02, N4), t not below ta
    case (number_of NoDrivingDifference) (not (beyond s.flow s.temperature s.ambient)) ∷
    -- "16: goal 2 with aim 0; goal 3 unless ta < aim < t."; goal 4 unless t < aim < ta
    case (number_of InvalidAim) (aim_refused s s.goal) ∷
    -- "43, after 16, for goal 7 with D above 10,000." (02, N6)
    case (number_of NotCylinder) (s.counts_jacket && ltb 10_000 s.line.diameter.0) ∷
    []

-- the cases of a sheet of a kind that need no rung
abbrev pub field_cases_as : Kind → List ℕ → List Case
field_cases_as kind bytes =
    -- "11: length is not 24."; "11 for 26 bytes in the larger book" (02, N7): there, length is not 26
    case (number_of SheetLength) (not (eqb (length bytes) (sheet_size kind))) ∷
    value_cases (decoded_as kind bytes)

-- the cases that try the ladder, in the pass that decides: "The second pass can meet 17 and 18 as the first can." (02, N5)
abbrev pub ladder_cases : Sheet → List Case
ladder_cases s =
    -- "17: all 31 rungs miss."
    case (number_of NoneSufficient) (eqb (chosen s) rungs) ∷
    -- "18: the first rung that doesn't miss is open."; "If the check says too close, the sheet gets 18." (02, N5)
    case (number_of TooClose) (is_undecided (verdicts s (chosen s)) || too_close (check_between s)) ∷
    []

abbrev pub cases_as : Kind → List ℕ → List Case
cases_as kind bytes = field_cases_as kind bytes ++ ladder_cases (decoded_as kind bytes)

-- what the call that answers a sheet of a kind responds to its bytes
abbrev pub response_as : Kind → List ℕ → Response
response_as kind bytes = respond (cases_as kind bytes) (answer_as kind bytes)

-- the same of standard sheets
abbrev pub field_cases : List ℕ → List Case
field_cases = field_cases_as Standard

abbrev pub cases : List ℕ → List Case
cases = cases_as Standard

abbrev pub response_to : List ℕ → Response
response_to = response_as Standard
