-- The figures of docs/METHOD.md, section by section, beside those that `worked` has: P1, P2, P4, P8 and the answer to F in `Worked`, and the
-- larger book's line number and reading in `WorkedLargerBook`.
-- Assumes nothing.
use Rattle.std.specs.Prelude.{ℕ, ◌*◌, ◌≡◌, Some, List, [], ◌∷◌, ◌++◌, get_or}
use Rattle.std.proofs.Math.Option.{none, some}
use Rattle.fractions.specs.declared.Bounds.{Bounds}
use Rattle.fractions.specs.Fraction.{Fraction, ◌over◌}
use Rattle.fractions.specs.Rounding.{ceiling}
use Rattle.lengths.specs.Units.{tenths, millimetres}
use Rattle.temperatures.specs.Temperature.{offset_binary, tenths_celsius}
use Rattle.quadrature.specs.Figures.{step_bounds, log_bounds}
use Rattle.quadrature.specs.Cuttings.{lower_sum}
use Rattle.annex_tables.specs.Annex.{annex_entry}
use Rattle.line.specs.declared.Shape.TheVariants.{Cylinder as Pipe}
use Rattle.requirement.specs.declared.Goal.TheVariants.{Loss, Surface}
use Rattle.jacket.specs.Cleared.{cleared}
use Rattle.provision.specs.Provided.{film_bounds, insulation_bounds, provided}
use Rattle.verdict.specs.declared.Verdict.TheVariants.{Sufficient, Insufficient}
use Rattle.refusals.specs.Response.{complete}
use Rattle.big_endian.specs.Bytes.{bytes_of}
use Rattle.limits.specs.Limits.{row, table, limit_of, neighbours, interpolated, loss_limit, surface_limit}
use Rattle.limits.specs.FlatTable.{flat_table, place}
use Rattle.kinds.specs.declared.Kind.TheVariants.{Larger}
use Rattle.sheet.specs.Sheet.{decoded, difference, surface_aim, goal_of}
use Rattle.sheet.specs.Search.{required_of, first_by}
use Rattle.sheet.specs.Checks.{loss_check}
use Rattle.sheet.specs.Passes.{second_aim, check_between, deciding_goal, verdicts, chosen}
use Rattle.sheet.specs.Answer.{surface_bound}
use Rattle.sheet.specs.Refusals.{response_to}
use Rattle.worked.specs.Sheets.{sheet_f, sheet_g}
use Rattle.worked.specs.Book.{larger_one}
use Rattle.layout.specs.Layout.{standard, larger, bytes_for, sheet_offset, answer_offset}
use Rattle.layout.specs.OwnKind.{own_kind}
use Rattle.layout.specs.Sizes.{capacity, count}
use Rattle.book.specs.Refusals.{reading}

abbrev bounds : ℕ → ℕ → Bounds
bounds l u = record { lower = l; upper = u }

-- the bytes of the cylinder, and of the same pipe, hotter
abbrev pub cylinder : List ℕ
cylinder = 1 ∷ 1 ∷ 0 ∷ 1 ∷ 1 ∷ 14 ∷ 0 ∷ 207 ∷ 0 ∷ 70 ∷ 1 ∷ 77 ∷ 8 ∷ 0 ∷ 29 ∷ 76 ∷ 11 ∷ 64 ∷ 6 ∷ 64 ∷ 8 ∷ 248 ∷ 0 ∷ 0 ∷ []

abbrev pub hotter : List ℕ
hotter = 3 ∷ 1 ∷ 0 ∷ 2 ∷ 1 ∷ 14 ∷ 5 ∷ 20 ∷ 0 ∷ 250 ∷ 1 ∷ 77 ∷ 8 ∷ 0 ∷ (bytes_of 8 0 ++ (1 ∷ 94 ∷ []))

abbrev pub flat : List ℕ
flat = sheet_f 2 800

-- the same wall with another surface coefficient and aim, for any service
abbrev pub wall : ℕ → List ℕ
wall service = 2 ∷ service ∷ 0 ∷ 8 ∷ 46 ∷ 224 ∷ 5 ∷ 20 ∷ 0 ∷ 200 ∷ 1 ∷ 144 ∷ 4 ∷ 139 ∷ (bytes_of 8 0 ++ (4 ∷ 36 ∷ []))

-- the flat wall with cheap heat, by goal 6
abbrev pub second_pass : List ℕ
second_pass = 6 ∷ 3 ∷ 0 ∷ 10 ∷ 46 ∷ 224 ∷ 5 ∷ 20 ∷ 0 ∷ 200 ∷ 1 ∷ 144 ∷ 3 ∷ 32 ∷ 3 ∷ 232 ∷ 15 ∷ 160 ∷ 11 ∷ 184 ∷ 8 ∷ 248 ∷ 0 ∷ 0 ∷ []

-- the cylinder with a jacket of 200 yuan/m²
abbrev pub with_jacket : List ℕ
with_jacket = 7 ∷ 1 ∷ 0 ∷ 11 ∷ 1 ∷ 14 ∷ 0 ∷ 207 ∷ 0 ∷ 70 ∷ 1 ∷ 77 ∷ 8 ∷ 0 ∷ 29 ∷ 76 ∷ 11 ∷ 64 ∷ 6 ∷ 64 ∷ 8 ∷ 248 ∷ 0 ∷ 200 ∷ []

-- the cylinder as a cold line, and a cold wall
abbrev pub cold_line : List ℕ
cold_line = 5 ∷ 1 ∷ 0 ∷ 3 ∷ 1 ∷ 14 ∷ 0 ∷ 70 ∷ 0 ∷ 207 ∷ 1 ∷ 77 ∷ 8 ∷ 0 ∷ 29 ∷ 76 ∷ 11 ∷ 64 ∷ 6 ∷ 64 ∷ 8 ∷ 248 ∷ 0 ∷ 0 ∷ []

abbrev pub cold_wall : List ℕ
cold_wall = 4 ∷ 1 ∷ 0 ∷ 4 ∷ 46 ∷ 224 ∷ 255 ∷ 146 ∷ 0 ∷ 10 ∷ 1 ∷ 144 ∷ 3 ∷ 32 ∷ (bytes_of 8 0 ++ (255 ∷ 246 ∷ []))

abbrev pub book : List ℕ
book = (0 ∷ 2 ∷ 0 ∷ 2 ∷ []) ++ cylinder ++ flat ++ (0 ∷ 1 ∷ 0 ∷ 20 ∷ 3 ∷ 0 ∷ 0 ∷ 77 ∷ []) ++ (0 ∷ 2 ∷ 0 ∷ 50 ∷ 0 ∷ 0 ∷ 1 ∷ 44 ∷ [])

pub record Cylinder : Type 0 where
  pub signed : offset_binary 65_436 ≡ 32_668
  pub temperatures : ((decoded cylinder).temperature.0 ≡ 32_975) × (difference (decoded cylinder) ≡ 137)
  -- the product under the root, and the squares that pin the root down
  pub product : 14_402_025_000 * (7_500 * 333 * 2_880 * 137) ≡ 14_191_951_302_540_000_000_000
  pub squares : (62_154_864 * 62_154_864 * 3_673_600 ≡ 14_191_951_143_838_570_905_600) × (62_154_865 * 62_154_865 * 3_673_600 ≡ 14_191_951_600_502_791_360_000)
  pub required : required_of (decoded cylinder) (goal_of (decoded cylinder)) ≡ bounds 62_154_864 62_154_865
  -- the logs
  pub annex_27 : annex_entry 17 ≡ bounds 993_248_177_892 993_258_963_232
  pub annex_47 : annex_entry 37 ≡ bounds 1_547_558_530_565 1_547_570_464_918
  pub annex_67 : annex_entry 57 ≡ bounds 1_902_103_452_353 1_902_115_674_308
  pub to_470 : log_bounds (tenths 270) (tenths 470) ≡ bounds 554_310_352_673 554_311_501_686
  pub to_670 : log_bounds (tenths 270) (tenths 670) ≡ bounds 908_855_274_461 908_856_711_076
  -- the rungs
  pub film : film_bounds (decoded cylinder).line ≡ bounds 3_251_953 3_251_954
  pub insulation_10 : insulation_bounds Pipe (tenths 270) (millimetres 10) ≡ bounds 26_052_586 26_052_641
  pub insulation_20 : insulation_bounds Pipe (tenths 270) (millimetres 20) ≡ bounds 60_893_303 60_893_400
  pub at_0 : provided (decoded cylinder).line (millimetres 0) ≡ bounds 3_251_953 3_251_954
  pub at_10 : provided (decoded cylinder).line (millimetres 10) ≡ bounds 29_304_539 29_304_595
  pub at_20 : provided (decoded cylinder).line (millimetres 20) ≡ bounds 64_145_256 64_145_354
  pub found : chosen (decoded cylinder) ≡ 2
  -- the checks, the bound and the answer
  pub no_limit : loss_limit 1 (tenths_celsius 207) ≡ 0
  pub limit_of_surface : surface_limit (tenths_celsius 70) ≡ tenths_celsius 500
  pub bound : (ceiling (912_420_000_000 over 131_369_484_288) ≡ 7) × (surface_bound (decoded cylinder) (bounds 64_145_256 64_145_354) ≡ tenths_celsius 77)
  pub answer : response_to cylinder ≡ complete (0 ∷ 1 ∷ 0 ∷ 20 ∷ 3 ∷ 0 ∷ 0 ∷ 77 ∷ [])

pub record Hotter : Type 0 where
  pub required : required_of (decoded hotter) (goal_of (decoded hotter)) ≡ bounds 34_145_507 34_145_508
  -- the loss limits as the annex prints them, and where the one of row 1 and service 1 stands
  pub limits :
      flat_table ≡
      58 ∷ 116 ∷ 93 ∷ 163 ∷ 116 ∷ 203 ∷ 140 ∷ 244 ∷ 163 ∷ 273 ∷ 186 ∷ 296 ∷ 209 ∷ 308 ∷ 227 ∷ 314 ∷ 244 ∷ 0 ∷ 262 ∷ 0 ∷ 279 ∷ 0 ∷ 296 ∷ 0 ∷
      314 ∷ 0 ∷ []
  pub row_1 : (place 1 1 ≡ 2) × (get_or flat_table 2 0 ≡ 93)
  pub limit_of_loss : loss_limit 1 (tenths_celsius 1_300) ≡ 930
  pub loss_required : required_of (decoded hotter) (Loss 930) ≡ bounds 75_193_548 75_193_549
  pub surface_required : required_of (decoded hotter) (Surface 250) ≡ bounds 13_658_203 13_658_204
  pub bound : surface_bound (decoded hotter) (bounds 64_145_256 64_145_354) ≡ tenths_celsius 304
  pub answer : response_to hotter ≡ complete (0 ∷ 1 ∷ 0 ∷ 20 ∷ 1 ∷ 0 ∷ 1 ∷ 48 ∷ [])

pub record Between : Type 0 where
  pub step_270 : step_bounds 270 ≡ bounds 3_696_857_670 3_696_870_303
  pub step_271 : step_bounds 271 ≡ bounds 3_683_241_252 3_683_253_745
  pub step_272 : step_bounds 272 ≡ bounds 3_669_724_770 3_669_737_126
  pub step_670 : step_bounds 670 ≡ bounds 1_491_424_310 1_491_425_140
  pub step_671 : step_bounds 671 ≡ bounds 1_489_203_276 1_489_204_102
  pub step_672 : step_bounds 672 ≡ bounds 1_486_988_847 1_486_989_670
  pub to_273 : log_bounds (tenths 100) (tenths 273) ≡ bounds 1_004_298_001_584 1_004_308_824_406
  pub to_673 : log_bounds (tenths 100) (tenths 673) ≡ bounds 1_906_571_068_786 1_906_583_293_220
  pub log : log_bounds (tenths 273) (tenths 673) ≡ bounds 902_273_067_202 902_274_468_814

pub record FlatWall : Type 0 where
  pub at_0 : provided (decoded flat).line (millimetres 0) ≡ bounds 5_000_000 5_000_000
  pub at_10 : provided (decoded flat).line (millimetres 10) ≡ bounds 15_000_000 15_000_000
  pub at_20 : provided (decoded flat).line (millimetres 20) ≡ bounds 25_000_000 25_000_000
  pub at_30 : provided (decoded flat).line (millimetres 30) ≡ bounds 35_000_000 35_000_000
  pub at_40 : provided (decoded flat).line (millimetres 40) ≡ bounds 45_000_000 45_000_000
  pub loss_required : required_of (decoded flat) (Loss 930) ≡ bounds 47_311_827 47_311_828
  pub surface_required : required_of (decoded flat) (Surface 300) ≡ bounds 18_333_333 18_333_334
  pub bound : surface_bound (decoded flat) (bounds 55_000_000 55_000_000) ≡ tenths_celsius 300
  -- the rung above the open one of sheet G
  pub above_open : (provided (decoded sheet_g).line (millimetres 10)).lower ≡ 13_439_380
  -- the exact equation: strip 100, cut in 2
  pub strip : lower_sum 2 (tenths 100) (tenths 101) ≡ 1_608 over 161_603

pub record BetweenRows : Type 0 where
  pub required : required_of (decoded (wall 3)) (goal_of (decoded (wall 3))) ≡ bounds 41_509_433 41_509_434
  pub at_30 : provided (decoded (wall 3)).line (millimetres 30) ≡ bounds 33_439_380 33_439_381
  pub at_40 : provided (decoded (wall 3)).line (millimetres 40) ≡ bounds 43_439_380 43_439_381
  -- where the limits of rows 1 and 2 stand for service 3
  pub places : (place 1 3 ≡ 2) × (place 2 3 ≡ 4) × (get_or flat_table 4 0 ≡ 116)
  -- the rows of 100 and 150 °C, and the straight line between them at 130.0 and 129.9 °C
  pub rows :
      let rows = neighbours (tenths_celsius 1_300) none table in
      (rows.below ≡ some (row 100 93 163)) × (rows.above ≡ some (row 150 116 203)) ×
      (limit_of 3 (row 100 93 163) ≡ 930) × (limit_of 3 (row 150 116 203) ≡ 1_160)
  pub line : (interpolated 930 1_160 500 300 ≡ 1_068) × (interpolated 930 1_160 500 299 ≡ 1_067)
  pub limit : (loss_limit 3 (tenths_celsius 1_300) ≡ 1_068) × (loss_limit 1 (tenths_celsius 1_300) ≡ 930)
  pub loss_required : required_of (decoded (wall 3)) (Loss 1_068) ≡ bounds 41_198_501 41_198_502
  pub surface_required : required_of (decoded (wall 3)) (Surface 300) ≡ bounds 12_611_063 12_611_064
  pub bound : surface_bound (decoded (wall 3)) (bounds 43_439_380 43_439_381) ≡ tenths_celsius 288
  -- services 3 and 1
  pub answer : response_to (wall 3) ≡ complete (0 ∷ 2 ∷ 0 ∷ 40 ∷ 0 ∷ 0 ∷ 1 ∷ 32 ∷ [])
  pub answer_by_row : response_to (wall 1) ≡ complete (0 ∷ 2 ∷ 0 ∷ 40 ∷ 1 ∷ 0 ∷ 1 ∷ 32 ∷ [])

pub record SecondPass : Type 0 where
  -- the first pass: the product under the root, the squares that pin the root down, and the rung
  pub product : 3_598_609_000 * (1_000 * 400 * 4_000 * 1_100) ≡ 6_333_551_840_000_000_000_000
  pub squares : (30_323_344 * 30_323_344 * 6_888_000 ≡ 6_333_551_757_966_010_368_000) × (30_323_345 * 30_323_345 * 6_888_000 ≡ 6_333_552_175_700_404_200_000)
  pub required : required_of (decoded second_pass) (goal_of (decoded second_pass)) ≡ bounds 30_323_344 30_323_345
  pub at_20 : provided (decoded second_pass).line (millimetres 20) ≡ bounds 25_000_000 25_000_000
  pub at_30 : provided (decoded second_pass).line (millimetres 30) ≡ bounds 35_000_000 35_000_000
  pub first : first_by (decoded second_pass) (goal_of (decoded second_pass)) ≡ 3
  -- its loss check
  pub limit : loss_limit 3 (tenths_celsius 1_300) ≡ 1_068
  pub loss_required : required_of (decoded second_pass) (Loss 1_068) ≡ bounds 41_198_501 41_198_502
  pub check : check_between (decoded second_pass) ≡ Some Insufficient
  -- the second pass: 90 per cent of the limit, and the rung
  pub aim : (second_aim (decoded second_pass) ≡ 961) × (deciding_goal (decoded second_pass) ≡ Loss 961)
  pub second_required : required_of (decoded second_pass) (Loss 961) ≡ bounds 45_785_639 45_785_640
  pub at_40 : provided (decoded second_pass).line (millimetres 40) ≡ bounds 45_000_000 45_000_000
  pub at_50 : provided (decoded second_pass).line (millimetres 50) ≡ bounds 55_000_000 55_000_000
  pub found : chosen (decoded second_pass) ≡ 5
  -- the whole limit would allow 40 mm
  pub whole_limit : loss_check (decoded second_pass) (bounds 45_000_000 45_000_000) ≡ Some Sufficient
  -- the checks, the bound and the answer
  pub loss : loss_check (decoded second_pass) (bounds 55_000_000 55_000_000) ≡ Some Sufficient
  pub surface_required : required_of (decoded second_pass) (Surface 300) ≡ bounds 18_333_333 18_333_334
  pub bound : surface_bound (decoded second_pass) (bounds 55_000_000 55_000_000) ≡ tenths_celsius 300
  pub answer : response_to second_pass ≡ complete (1 ∷ 2 ∷ 0 ∷ 50 ∷ 0 ∷ 0 ∷ 1 ∷ 44 ∷ [])

-- on an outer diameter E, where αE exceeds 200L by d
abbrev required_at : ℕ → ℕ → Fraction
required_at E d = let s = decoded with_jacket in cleared s.line (difference s) s.economy s.aim (tenths E) d

pub record WithJacket : Type 0 where
  -- what the square of have is compared with at 0 and at 10 mm; the products on the other side; and the verdicts
  pub required_0 : required_at 270 486_360 ≡ 6_902_397_435_503_354_400_000_000_000 over 20_840_185_856_000
  pub required_10 : required_at 470 895_960 ≡ 12_715_420_689_023_738_400_000_000_000 over 22_344_892_416_000
  pub side_0 : 3_251_954 * 3_251_954 * 20_840_185_856_000 ≡ 220_389_233_874_804_115_767_296_000
  pub side_10 : 29_304_539 * 29_304_539 * 22_344_892_416_000 ≡ 19_188_810_565_720_181_969_780_736_000
  pub judged : (verdicts (decoded with_jacket) 0 ≡ Insufficient) × (verdicts (decoded with_jacket) 1 ≡ Sufficient)
  pub found : chosen (decoded with_jacket) ≡ 1
  pub bound : surface_bound (decoded with_jacket) (bounds 29_304_539 29_304_595) ≡ tenths_celsius 86
  pub answer : response_to with_jacket ≡ complete (0 ∷ 1 ∷ 0 ∷ 10 ∷ 3 ∷ 0 ∷ 0 ∷ 86 ∷ [])

pub record ColdLine : Type 0 where
  pub difference : difference (decoded cold_line) ≡ 137
  pub required : required_of (decoded cold_line) (goal_of (decoded cold_line)) ≡ bounds 62_154_864 62_154_865
  pub checks : (loss_limit 1 (tenths_celsius 70) ≡ 0) × (surface_limit (tenths_celsius 207) ≡ tenths_celsius 500)
  pub bound : surface_bound (decoded cold_line) (bounds 64_145_256 64_145_354) ≡ tenths_celsius 200
  pub answer : response_to cold_line ≡ complete (0 ∷ 1 ∷ 0 ∷ 20 ∷ 3 ∷ 0 ∷ 0 ∷ 200 ∷ [])

pub record ColdWall : Type 0 where
  -- −110, 10 and −10 in the count of temperatures
  pub temperatures : ((decoded cold_wall).temperature.0 ≡ 32_658) × ((decoded cold_wall).ambient.0 ≡ 32_778) × ((surface_aim (decoded cold_wall)).0 ≡ 32_758)
  pub differences : (difference (decoded cold_wall) ≡ 120) × (goal_of (decoded cold_wall) ≡ Surface 20)
  pub required : required_of (decoded cold_wall) (goal_of (decoded cold_wall)) ≡ bounds 30_000_000 30_000_000
  pub at_20 : provided (decoded cold_wall).line (millimetres 20) ≡ bounds 25_000_000 25_000_000
  pub at_30 : provided (decoded cold_wall).line (millimetres 30) ≡ bounds 35_000_000 35_000_000
  -- −8 in the count of temperatures
  pub bound : (surface_bound (decoded cold_wall) (bounds 35_000_000 35_000_000)).0 ≡ 32_760
  pub answer : response_to cold_wall ≡ complete (0 ∷ 2 ∷ 0 ∷ 30 ∷ 3 ∷ 0 ∷ 255 ∷ 248 ∷ [])

pub record Entry : Type 0 where
  pub size : bytes_for standard 2 ≡ 68
  pub offsets : (sheet_offset standard 1 ≡ 28) × (answer_offset standard 2 0 ≡ 52) × (answer_offset standard 2 1 ≡ 60)
  pub sizes : (capacity standard book ≡ 2) × (count standard book ≡ 2)
  pub read : reading standard book 1 ≡ complete (flat ++ (0 ∷ 2 ∷ 0 ∷ 50 ∷ 0 ∷ 0 ∷ 1 ∷ 44 ∷ []))

pub record LargerEntry : Type 0 where
  pub offsets : (sheet_offset larger 0 ≡ 10) × (answer_offset larger 1 0 ≡ 36) × (bytes_for larger 1 ≡ 44)
  pub sizes : (own_kind larger_one ≡ Larger) × (capacity larger larger_one ≡ 1) × (count larger larger_one ≡ 1)

pub record Method : Type 0 where
  pub the_cylinder : Cylinder
  pub the_same_hotter : Hotter
  pub between_millimetres : Between
  pub the_flat_wall : FlatWall
  pub between_rows : BetweenRows
  pub a_second_pass : SecondPass
  pub with_a_jacket : WithJacket
  pub the_cold_line : ColdLine
  pub the_cold_wall : ColdWall
  pub an_entry : Entry
  pub a_larger_entry : LargerEntry
