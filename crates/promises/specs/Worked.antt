-- Yearly shares and loss limits worked by hand. 02, N1 and N2.
-- Assumes nothing.
use Rattle.std.specs.Prelude.{◌≡◌, [], ◌∷◌}
use Rattle.fractions.specs.Rounding.{floor, ceiling}
use Rattle.temperatures.specs.Temperature.{tenths_celsius}
use Rattle.refusals.specs.Response.{refused, complete}
use Rattle.amortization.specs.Share.{share_by}
use Rattle.amortization.specs.Refusals.{share_response}
use Rattle.limits.specs.Limits.{loss_limit}

pub record WorkedShares : Type 0 where
  -- "Ten per cent over six years gives 2,296."
  pub ten_per_cent : share_response 1_000 6 ≡ complete (2_296 ∷ [])
  -- of the source documents, 002, (2), prints 22.96 per cent for it; 001, on 5.4.7, prints 0.264 for ten per cent over five years and
  -- 0.142 for seven per cent over ten, which are these to three places
  pub printed : (share_response 1_000 5 ≡ complete (2_638 ∷ [])) × (share_response 700 10 ≡ complete (1_424 ∷ []))
  -- the corners of the ranges
  pub corners : (share_response 1 2 ≡ complete (5_001 ∷ [])) × (share_response 1 30 ≡ complete (334 ∷ [])) × (share_response 3_000 2 ≡ complete (7_348 ∷ [])) × (share_response 3_000 30 ≡ complete (3_001 ∷ []))
  -- "41 for a rate or term outside its range"
  pub beyond : (share_response 0 6 ≡ refused 41) × (share_response 3_001 6 ≡ refused 41) × (share_response 1_000 1 ≡ refused 41) × (share_response 1_000 31 ≡ refused 41)
  -- "then 42 when the two ends round differently."
  pub undecided : share_response 4 4 ≡ refused 42
  -- where both hold, 41 counts
  pub both : (share_by ceiling 9 72 ≡ 143) × (share_by floor 9 72 ≡ 144) × (share_response 9 72 ≡ refused 41)

pub record WorkedLimits : Type 0 where
  -- "At 130.0 °C year-round it is 106.8."
  pub year_round_130 : loss_limit 3 (tenths_celsius 1_300) ≡ 1_068
  -- "rounded down", from 106.754 and 186.92
  pub year_round_129_9 : loss_limit 3 (tenths_celsius 1_299) ≡ 1_067
  pub seasonal_129_9 : loss_limit 4 (tenths_celsius 1_299) ≡ 1_869
  -- "Services 1 and 2 keep the row below"
  pub rows_at_130 : (loss_limit 1 (tenths_celsius 1_300) ≡ 930) × (loss_limit 2 (tenths_celsius 1_300) ≡ 1_630)
  -- "Seasonal at 400.0 gives 314; above it none is printed."
  pub seasonal_400 : loss_limit 4 (tenths_celsius 4_000) ≡ 3_140
  pub seasonal_400_1 : loss_limit 4 (tenths_celsius 4_001) ≡ 0
  -- the last row
  pub year_round_650 : loss_limit 3 (tenths_celsius 6_500) ≡ 3_140
