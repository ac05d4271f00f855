-- The sheets worked by hand that are marked P: 01, "Sheets worked by hand".
-- Assumes nothing.
use Rattle.std.specs.Prelude.{ℕ, ◌≡◌, List, [], ◌∷◌, ◌++◌, take}
use Rattle.fractions.specs.declared.Bounds.{Bounds}
use Rattle.lengths.specs.declared.units.Diameter.{Diameter}
use Rattle.lengths.specs.Units.{millimetres}
use Rattle.temperatures.specs.Temperature.{tenths_celsius}
use Rattle.quadrature.specs.Figures.{lower_step, upper_step, lower_log, upper_log}
use Rattle.provision.specs.Provided.{provided}
use Rattle.big_endian.specs.Bytes.{big_endian, bytes_of}
use Rattle.limits.specs.Limits.{loss_limit, surface_limit}
use Rattle.sheet.specs.Sheet.{decoded, surface_aim, goal_of}
use Rattle.sheet.specs.Search.{required_of}
use Rattle.sheet.specs.Answer.{answer}
use Rattle.sheet.specs.Refusals.{field_cases, response_to}
use Rattle.refusals.specs.Cases.{NoneHolds}
use Rattle.refusals.specs.Response.{refused, complete}

-- "Sheet F: goal 2, service 1, line 7, D 12,000, t 1,300, ta 200, L 400, α 800, aim 800", for any goal and aim
abbrev pub sheet_f : ℕ → ℕ → List ℕ
sheet_f goal aim =
    goal ∷ 1 ∷ (bytes_of 2 7 ++ bytes_of 2 12_000 ++ bytes_of 2 1_300 ++ bytes_of 2 200 ++ bytes_of 2 400 ++ bytes_of 2 800 ++ bytes_of 8 0 ++ bytes_of 2 aim)

-- "sheet G: goal 2, service 1, line 9, D 10,001, t 300, ta 200, L 400, α 1,163, aim 1,163"
abbrev pub sheet_g : List ℕ
sheet_g =
    2 ∷ 1 ∷ (bytes_of 2 9 ++ bytes_of 2 10_001 ++ bytes_of 2 300 ++ bytes_of 2 200 ++ bytes_of 2 400 ++ bytes_of 2 1_163 ++ bytes_of 8 0 ++ bytes_of 2 1_163)

-- have at k mm and need, each from below and above
abbrev provided_at : List ℕ → ℕ → Bounds
provided_at sheet k = provided (decoded sheet).line (millimetres k)

abbrev required_by : List ℕ → Bounds
required_by sheet = let s = decoded sheet in required_of s (goal_of s)

abbrev bounds : ℕ → ℕ → Bounds
bounds l u = record { lower = l; upper = u }

-- the sheet is answered, with a thickness of k mm
abbrev pub Gives : List ℕ → ℕ → Type 0
Gives sheet k = (response_to sheet ≡ complete (answer sheet)) × (big_endian (answer sheet) 2 2 ≡ k)

pub record Worked : Type 0 where
  -- "P1: step 100: under 9,950,248,756. P2: over 9,950,495,050. P3: E = D: both logs 0."
  pub p1 : lower_step 100 ≡ 9_950_248_756
  pub p2 : upper_step 100 ≡ 9_950_495_050
  pub p3 : (D : Diameter) → (lower_log D D ≡ 0) × (upper_log D D ≡ 0)
  -- "P4: have at 50 mm is 55,000,000 = need, so 50."
  pub p4 : (provided_at (sheet_f 2 800) 50 ≡ bounds 55_000_000 55_000_000) × (required_by (sheet_f 2 800) ≡ bounds 55_000_000 55_000_000) × Gives (sheet_f 2 800) 50
  -- and the whole answer, for which the listing prints "7 flat 50 within within 30.0"
  pub listed : response_to (sheet_f 2 800) ≡ complete (0 ∷ 2 ∷ 0 ∷ 50 ∷ 0 ∷ 0 ∷ 1 ∷ 44 ∷ [])
  -- "P5: aim 799: need between 55,068,836 and 55,068,837, so 60. P6: aim 145: 300. P7: aim 144: refusal 17."
  pub p5 : (required_by (sheet_f 2 799) ≡ bounds 55_068_836 55_068_837) × Gives (sheet_f 2 799) 60
  pub p6 : Gives (sheet_f 2 145) 300
  pub p7 : response_to (sheet_f 2 144) ≡ refused 17
  -- "P8: … at 0 mm under-have 3,439,380, over-have and high need 3,439,381, low need 3,439,380: refusal 18."
  pub p8 : (provided_at sheet_g 0 ≡ bounds 3_439_380 3_439_381) × (required_by sheet_g ≡ bounds 3_439_380 3_439_381) × (response_to sheet_g ≡ refused 18)
  -- "P9: goal 3, aim = t: 16.": of sheet F, and of every sheet for which cases 11 to 15 fail
  pub p9 :
      (response_to (sheet_f 3 1_300) ≡ refused 16) ×
      ((sheet : List ℕ) → let s = decoded sheet in s.code ≡ 3 → surface_aim s ≡ s.temperature → NoneHolds (take 5 (field_cases sheet)) → response_to sheet ≡ refused 16)
  -- "P10: year-round, 299.9 °C: 163. P11: seasonal, 450.0: none printed. P12: ta 27.0: 50.0; ta 27.1: 52.1."
  pub p10 : loss_limit 1 (tenths_celsius 2_999) ≡ 1_630
  pub p11 : loss_limit 2 (tenths_celsius 4_500) ≡ 0
  pub p12 : (surface_limit (tenths_celsius 270) ≡ tenths_celsius 500) × (surface_limit (tenths_celsius 271) ≡ tenths_celsius 521)
