-- Every rate and term where the ends part. 02, N1: "A paper in docs/ names a rate and term where the ends part, or shows that there are none."
-- The paper is docs/SHARE.md.
-- Assumes nothing.
use Rattle.std.specs.Prelude.{ℕ, zero, suc, ◌≡◌, ◌↔◌}
use mathlib.Core.List.{List, [], ◌∷◌, Memᴰ}
use Rattle.fractions.specs.Fraction.{Fraction}
use Rattle.fractions.specs.Rounding.{floor, ceiling}
use Rattle.refusals.specs.Response.{refused}
use Rattle.amortization.specs.Growth.{growth}
use Rattle.amortization.specs.Share.{share_by, exact_share}
use Rattle.amortization.specs.Refusals.{share_response}

-- 0.04 per cent over four years, 1.58 per cent over eight, 2.99 per cent over sixteen
abbrev pub undecided : List (ℕ × ℕ)
undecided = (4, 4) ∷ (158, 8) ∷ (299, 16) ∷ []

-- of all rates and terms, these are refused with 42, and no others: a pair is refused with it if and only if it is in the list
abbrev pub AllPairs : Type 0
AllPairs = (i n : ℕ) → (share_response i n ≡ refused 42) ↔ Memᴰ (i, n) undecided

-- the growth figures of n years, the last year first
unfoldable pub figures : (Fraction → ℕ) → ℕ → ℕ → List ℕ
figures round i zero = []
figures round i (suc n) = growth round i (suc n) ∷ figures round i n

-- the growth figures of a rate and a term, the shares that they round to, and the exact share rounded
pub record Ends (i n : ℕ) (low high : List ℕ) (least most exact : ℕ) : Type 0 where
  pub lower_growth : figures floor i n ≡ low
  pub upper_growth : figures ceiling i n ≡ high
  pub least_share : share_by ceiling i n ≡ least
  pub most_share : share_by floor i n ≡ most
  pub share_exactly : exact_share i n ≡ exact

-- the figures of the paper
pub record WorkedEnds : Type 0 where
  pub ten_per_cent :
      Ends 1_000 6
      (1_771_561_000 ∷ 1_610_510_000 ∷ 1_464_100_000 ∷ 1_331_000_000 ∷ 1_210_000_000 ∷ 1_100_000_000 ∷ [])
      (1_771_561_000 ∷ 1_610_510_000 ∷ 1_464_100_000 ∷ 1_331_000_000 ∷ 1_210_000_000 ∷ 1_100_000_000 ∷ [])
      2_296 2_296 2_296
  pub four :
      Ends 4 4
      (1_001_600_960 ∷ 1_001_200_480 ∷ 1_000_800_160 ∷ 1_000_400_000 ∷ [])
      (1_001_600_962 ∷ 1_001_200_481 ∷ 1_000_800_160 ∷ 1_000_400_000 ∷ [])
      2_502 2_503 2_503
  pub eight :
      Ends 158 8
      (1_133_615_217 ∷ 1_115_982_691 ∷ 1_098_624_426 ∷ 1_081_536_155 ∷ 1_064_713_679 ∷ 1_048_152_864 ∷ 1_031_849_640 ∷
      1_015_800_000 ∷ [])
      (1_133_615_223 ∷ 1_115_982_696 ∷ 1_098_624_430 ∷ 1_081_536_158 ∷ 1_064_713_681 ∷ 1_048_152_865 ∷ 1_031_849_640 ∷
      1_015_800_000 ∷ [])
      1_340 1_341 1_341
  pub sixteen :
      Ends 299 16
      (1_602_215_495 ∷ 1_555_700_064 ∷ 1_510_535_066 ∷ 1_466_681_296 ∷ 1_424_100_686 ∷ 1_382_756_274 ∷ 1_342_612_171 ∷
      1_303_633_529 ∷ 1_265_786_513 ∷ 1_229_038_269 ∷ 1_193_356_898 ∷ 1_158_711_427 ∷ 1_125_071_781 ∷ 1_092_408_760 ∷
      1_060_694_010 ∷ 1_029_900_000 ∷ [])
      (1_602_215_512 ∷ 1_555_700_079 ∷ 1_510_535_080 ∷ 1_466_681_308 ∷ 1_424_100_697 ∷ 1_382_756_284 ∷ 1_342_612_179 ∷
      1_303_633_536 ∷ 1_265_786_519 ∷ 1_229_038_274 ∷ 1_193_356_902 ∷ 1_158_711_430 ∷ 1_125_071_783 ∷ 1_092_408_761 ∷
      1_060_694_010 ∷ 1_029_900_000 ∷ [])
      795 796 796
