-- Answered sheets, for each goal and with each outcome of the checks, two with an unknown goal and an unknown service, and sheets of goals
-- 4 to 7 that are refused. Two economy sheets are 01's ("D 270 gives 20, D 320 gives 30"); the other answers are computed by
-- tools/sheet.py, which shares nothing with the crates.
-- Assumes nothing.
use Rattle.std.specs.Prelude.{ℕ, ◌≡◌, List, [], ◌∷◌, ◌++◌}
use Rattle.refusals.specs.Response.{complete, refused}
use Rattle.big_endian.specs.Bytes.{bytes_of}
use Rattle.verdict.specs.declared.Verdict.{Verdict}
use Rattle.verdict.specs.declared.Verdict.TheVariants.{Sufficient, Insufficient, Undecided}
use Rattle.sheet.specs.Sheet.{decoded}
use Rattle.sheet.specs.Passes.{verdicts}
use Rattle.sheet.specs.Refusals.{response_to}
use Rattle.worked.specs.Sheets.{Gives}

-- an economy sheet, hot or cold
abbrev pub economy_of : (goal D t ta aim : ℕ) → List ℕ
economy_of goal D t ta aim =
    goal ∷ 1 ∷ (bytes_of 2 0 ++ bytes_of 2 D ++ bytes_of 2 t ++ bytes_of 2 ta ++ bytes_of 2 333 ++ bytes_of 2 2_048 ++ bytes_of 2 7_500 ++ bytes_of 2 2_880 ++ bytes_of 2 1_600 ++ bytes_of 2 2_296 ++ bytes_of 2 aim)

-- "Economy with L 333, α 2,048, f 7,500, τ 2,880, P 1,600, S 2,296, t 207, ta 70"
abbrev pub economy_sheet : ℕ → List ℕ
economy_sheet D = economy_of 1 D 207 70 0

-- a sheet of goal 2, 3 or 4; a negative number is written as its two's complement
abbrev sheet_of : (goal service D t ta L α aim : ℕ) → List ℕ
sheet_of goal service D t ta L α aim =
    goal ∷ service ∷ (bytes_of 2 0 ++ bytes_of 2 D ++ bytes_of 2 t ++ bytes_of 2 ta ++ bytes_of 2 L ++ bytes_of 2 α ++ bytes_of 8 0 ++ bytes_of 2 aim)

abbrev Answers : List ℕ → List ℕ → Type 0
Answers sheet bytes = response_to sheet ≡ complete bytes

pub record Examples : Type 0 where
  pub economy_270 : Gives (economy_sheet 270) 20
  pub economy_320 : Gives (economy_sheet 320) 30
  -- a pipe for a loss; a pipe in air at −10.0 °C for a surface at −2.0 °C, with no limit printed
  pub loss : Answers (sheet_of 2 1 1_080 3_500 250 450 1_163 1_500) (0 ∷ 1 ∷ 0 ∷ 70 ∷ 0 ∷ 0 ∷ 1 ∷ 112 ∷ [])
  pub surface : Answers (sheet_of 3 2 4_260 4_500 65_436 60 1_000 65_516) (0 ∷ 1 ∷ 0 ∷ 40 ∷ 3 ∷ 0 ∷ 255 ∷ 219 ∷ [])
  -- a bare pipe, with both limits exceeded, and the bound held to t
  pub bare : Answers (sheet_of 2 1 1_000 6_000 0 333 1_001 60_061) (0 ∷ 1 ∷ 0 ∷ 0 ∷ 1 ∷ 1 ∷ 23 ∷ 112 ∷ [])
  -- too close to the loss limit; too close to the surface limit
  pub loss_close : Answers (sheet_of 2 1 12_000 600 200 100 145 60_000) (0 ∷ 2 ∷ 0 ∷ 0 ∷ 2 ∷ 1 ∷ 2 ∷ 88 ∷ [])
  pub surface_close : Answers (sheet_of 2 1 12_000 803 200 100 101 402) (0 ∷ 2 ∷ 0 ∷ 10 ∷ 0 ∷ 2 ∷ 1 ∷ 245 ∷ [])
  -- "The loss check follows the service byte" (02, N2): at 400.1 °C service 2 has the limit of the row, and service 4 none
  pub seasonal_row : Answers (sheet_of 2 2 12_000 4_001 200 400 1_163 3_000) (0 ∷ 2 ∷ 0 ∷ 50 ∷ 0 ∷ 0 ∷ 1 ∷ 189 ∷ [])
  pub seasonal_interpolated : Answers (sheet_of 2 4 12_000 4_001 200 400 1_163 3_000) (0 ∷ 2 ∷ 0 ∷ 50 ∷ 3 ∷ 0 ∷ 1 ∷ 189 ∷ [])
  -- a goal that is unknown; "refusal 12 admits the two new codes", and no other
  pub goal_8 : response_to (economy_of 8 270 207 70 0) ≡ refused 12
  pub service_5 : response_to (sheet_of 2 5 12_000 1_300 200 400 1_163 1_060) ≡ refused 12

-- 02, N4: "The chilled-water crew wants the same book." The sheet of D 270 is in `Method`, of `method`.
pub record ColdExamples : Type 0 where
  -- table 4 of 002 with the temperatures as printed
  pub economy_320 : Answers (economy_of 5 320 70 207 0) (0 ∷ 1 ∷ 0 ∷ 30 ∷ 3 ∷ 0 ∷ 0 ∷ 202 ∷ [])
  -- "A signed temperature near zero behaves like every other.": a pipe at −5.0 °C in air at 25.0 °C, for a surface at 20.0 °C, and one at
  -- −0.1 °C in air at 0.1 °C, for a surface at 0.0 °C
  pub across_zero : Answers (sheet_of 4 1 1_080 65_486 250 400 1_163 200) (0 ∷ 1 ∷ 0 ∷ 20 ∷ 3 ∷ 0 ∷ 0 ∷ 211 ∷ [])
  pub next_to_zero : Answers (sheet_of 4 1 570 65_535 1 10 100 0) (0 ∷ 1 ∷ 0 ∷ 10 ∷ 3 ∷ 0 ∷ 0 ∷ 0 ∷ [])
  -- "Refusals 12 to 16 read these conditions for goals 4 and 5":
  -- "down to −1,960", and no further; at −50.1 °C a hot wall is out of range, and a cold one is not
  pub nitrogen : Answers (sheet_of 4 3 12_000 63_576 200 200 800 150) (0 ∷ 2 ∷ 0 ∷ 110 ∷ 3 ∷ 0 ∷ 0 ∷ 152 ∷ [])
  pub colder : response_to (sheet_of 4 3 12_000 63_575 200 200 800 150) ≡ refused 13
  pub hot_50_1 : response_to (sheet_of 3 3 12_000 65_035 200 200 800 150) ≡ refused 13
  pub cold_50_1 : Answers (sheet_of 4 3 12_000 65_035 200 200 800 150) (0 ∷ 2 ∷ 0 ∷ 40 ∷ 3 ∷ 0 ∷ 0 ∷ 158 ∷ [])
  -- "Goal 5 uses offsets 14–21 as goal 1 does and its aim is zero."; goal 4 does not use them
  pub aim_of_goal_5 : response_to (economy_of 5 320 70 207 1) ≡ refused 14
  pub prices_of_goal_4 : response_to (economy_of 4 320 70 207 200) ≡ refused 14
  -- "Here t is below ta": not at ta, nor above it
  pub at_air : response_to (economy_of 5 320 207 207 0) ≡ refused 15
  pub above_air : response_to (economy_of 5 320 208 207 0) ≡ refused 15
  -- "t < aim < ta"
  pub aim_at_air : response_to (sheet_of 4 1 1_080 65_486 250 400 1_163 250) ≡ refused 16
  pub aim_at_pipe : response_to (sheet_of 4 1 1_080 65_486 250 400 1_163 65_486) ≡ refused 16
  -- "all 31 rungs miss", "the first rung that doesn't miss is open"
  pub beyond_the_ladder : response_to (sheet_of 4 1 12_000 64_636 200 400 800 182) ≡ refused 17
  pub open_rung : response_to (sheet_of 4 1 20_000 63_576 500 1 10_000 63_577) ≡ refused 18

-- a sheet of goal 6
abbrev limited_of : (service D t ta L α f τ P S : ℕ) → List ℕ
limited_of service D t ta L α f τ P S =
    6 ∷ service ∷ (bytes_of 2 0 ++ bytes_of 2 D ++ bytes_of 2 t ++ bytes_of 2 ta ++ bytes_of 2 L ++ bytes_of 2 α ++ bytes_of 2 f ++ bytes_of 2 τ ++ bytes_of 2 P ++ bytes_of 2 S ++ bytes_of 2 0)

-- a wall with heat so cheap that the first pass leaves it bare: need is 135,442 to 135,443 nm, and have at 0 mm 10¹⁰ / α
abbrev pub bare_wall : (service t ta α : ℕ) → List ℕ
bare_wall service t ta α = limited_of service 20_000 t ta 1_000 α 1 2_880 65_535 10_000

-- a wall for which no rung is enough at 104.4 W/m², and a tube; both are bare after the first pass
abbrev pub hot_wall : List ℕ
hot_wall = limited_of 1 20_000 1_500 65_365 2_000 1_000 1 2_880 65_535 10_000

abbrev pub tube : List ℕ
tube = limited_of 2 150 576 200 438 4_625 240 2_300 51_664 8_352

-- 02, N5: "Economy that respects the loss limit."
pub record LimitedExamples : Type 0 where
  -- within: at 116.0 W/m² need is 10⁸ nm, and so is have; with service 2 and α 174, at 203.0, there is more than is needed
  pub within : Answers (bare_wall 1 1_500 340 100) (0 ∷ 2 ∷ 0 ∷ 0 ∷ 0 ∷ 1 ∷ 5 ∷ 220 ∷ []) × Answers (bare_wall 2 1_500 340 174) (0 ∷ 2 ∷ 0 ∷ 0 ∷ 0 ∷ 1 ∷ 5 ∷ 220 ∷ [])
  -- none printed: goal 1's answer
  pub none_printed : Answers (economy_of 6 270 207 70 0) (0 ∷ 1 ∷ 0 ∷ 20 ∷ 3 ∷ 0 ∷ 0 ∷ 77 ∷ [])
  -- "If the check says too close, the sheet gets 18.": have and need at 203.0 W/m² are both 10¹⁰ / 175
  pub close : response_to (bare_wall 2 1_500 340 175) ≡ refused 18
  -- over, and found again at 104.4 W/m², where need is 10¹⁰ / 90; the next α leaves 100 mm open there, and the next misses
  pub over : Answers (bare_wall 1 1_500 340 899) (1 ∷ 2 ∷ 0 ∷ 100 ∷ 0 ∷ 0 ∷ 1 ∷ 201 ∷ [])
  pub second_open : response_to (bare_wall 1 1_500 340 900) ≡ refused 18
  pub over_next : Answers (bare_wall 1 1_500 340 901) (1 ∷ 2 ∷ 0 ∷ 110 ∷ 0 ∷ 0 ∷ 1 ∷ 191 ∷ [])
  -- "90 per cent of the limit in tenths, rounded down": of 1,068 it is 961; 100 mm would meet 962
  pub rounded_down : Answers (bare_wall 3 1_300 140 485) (1 ∷ 2 ∷ 0 ∷ 110 ∷ 0 ∷ 0 ∷ 1 ∷ 68 ∷ [])
  -- the second pass misses at every rung
  pub second_beyond : response_to hot_wall ≡ refused 17
  -- a tube
  pub of_tube : Answers tube (1 ∷ 1 ∷ 0 ∷ 10 ∷ 0 ∷ 0 ∷ 0 ∷ 223 ∷ [])
  -- "its aim is zero"
  pub aim_of_goal_6 : response_to (economy_of 6 270 207 70 1) ≡ refused 14

-- a steam pipe, and a thin one with a poor surface; of goal 7 the aim is the jacket's price
abbrev pub steam : (D t aim : ℕ) → List ℕ
steam D t aim =
    7 ∷ 1 ∷ (bytes_of 2 0 ++ bytes_of 2 D ++ bytes_of 2 t ++ bytes_of 2 200 ++ bytes_of 2 400 ++ bytes_of 2 1_163 ++ bytes_of 2 5_500 ++ bytes_of 2 8_000 ++ bytes_of 2 800 ++ bytes_of 2 2_296 ++ bytes_of 2 aim)

abbrev pub thin : (D : ℕ) → List ℕ
thin D =
    7 ∷ 1 ∷ (bytes_of 2 0 ++ bytes_of 2 D ++ bytes_of 2 5_200 ++ bytes_of 2 200 ++ bytes_of 2 500 ++ bytes_of 2 200 ++ bytes_of 2 5_000 ++ bytes_of 2 8_000 ++ bytes_of 2 200 ++ bytes_of 2 5_000 ++ bytes_of 2 200)

-- a tube whose first rung that doesn't miss is open
abbrev pub open_jacket : List ℕ
open_jacket =
    7 ∷ 1 ∷ (bytes_of 2 7 ++ bytes_of 2 100 ++ bytes_of 2 2_700 ++ bytes_of 2 250 ++ bytes_of 2 430 ++ bytes_of 2 1_000 ++ bytes_of 2 2_900 ++ bytes_of 2 4_000 ++ bytes_of 2 1_600 ++ bytes_of 2 2_296 ++ bytes_of 2 160)

-- the verdict on the rung with index r
abbrev Judged : List ℕ → ℕ → Verdict → Type 0
Judged sheet r v = verdicts (decoded sheet) r ≡ v

-- 02, N6: "The price of the jacket."
pub record JacketExamples : Type 0 where
  -- a jacket of 80 yuan/m², one that costs nothing, and the dearest
  pub priced : Answers (steam 1_080 2_000 80) (0 ∷ 1 ∷ 0 ∷ 120 ∷ 0 ∷ 0 ∷ 0 ∷ 230 ∷ [])
  pub free : Answers (steam 1_080 2_000 0) (0 ∷ 1 ∷ 0 ∷ 140 ∷ 0 ∷ 0 ∷ 0 ∷ 225 ∷ [])
  pub dearest : Answers (steam 1_080 2_000 65_535) (0 ∷ 1 ∷ 0 ∷ 10 ∷ 1 ∷ 1 ∷ 2 ∷ 121 ∷ [])
  -- "43, after 16, for goal 7 with D above 10,000."; t at ta is 15 first
  pub widest : Answers (steam 10_000 2_000 80) (0 ∷ 1 ∷ 0 ∷ 200 ∷ 0 ∷ 0 ∷ 0 ∷ 226 ∷ [])
  pub wall : response_to (steam 10_001 2_000 80) ≡ refused 43
  pub wall_at_air : response_to (steam 10_001 200 80) ≡ refused 15
  -- "A rung where the difference is not positive misses": 200L is 100,000, and αE is 60,000 at 0 mm, 100,000 at 10 mm and 140,000 at 20 mm
  pub not_positive : Judged (thin 300) 0 Insufficient × Judged (thin 300) 1 Insufficient
  pub above_it : Answers (thin 300) (0 ∷ 1 ∷ 0 ∷ 50 ∷ 0 ∷ 1 ∷ 4 ∷ 215 ∷ [])
  -- the first rung that doesn't miss, 20 mm, is open
  pub open_rung : (response_to open_jacket ≡ refused 18) × Judged open_jacket 1 Insufficient × Judged open_jacket 2 Undecided
  -- "Rungs above the first that doesn't miss may miss again": 20 mm is the answer, 30 and 40 mm miss, and 50 mm meets
  pub first_found : Answers (thin 273) (0 ∷ 1 ∷ 0 ∷ 20 ∷ 1 ∷ 1 ∷ 9 ∷ 154 ∷ [])
  pub missing_again : Judged (thin 273) 3 Insufficient × Judged (thin 273) 4 Insufficient × Judged (thin 273) 5 Sufficient
