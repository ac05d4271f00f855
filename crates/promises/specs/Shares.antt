-- What is promised of the yearly share. 02, N1.
-- Assumes nothing.
use Rattle.std.specs.Prelude.{ℕ, ◌+◌, ◌*◌, ◌≤◌, ◌<◌, ◌≡◌, List, [], ◌∷◌}
use Rattle.fractions.specs.Fraction.{Fraction, ◌over◌, ◌≼◌, ◌≺◌}
use Rattle.fractions.specs.Rounding.{floor, ceiling, nearest}
use Rattle.refusals.specs.Cases.{numbers}
use Rattle.refusals.specs.Response.{complete, FirstOrComplete}
use Rattle.amortization.specs.Growth.{rounded_growth, exact_growth}
use Rattle.amortization.specs.Share.{share, share_by, exact_share}
use Rattle.amortization.specs.Refusals.{cases, share_response}

-- a growth is above 1
abbrev pub AboveOne : Fraction → Type 0
AboveOne g = g.den < g.num

pub record Shares : Type 0 where
  -- "once rounded down and once up": the exact growth lies between the two figures
  pub growth_enclosed : (i n : ℕ) → (rounded_growth floor i n ≼ exact_growth i n) × (exact_growth i n ≼ rounded_growth ceiling i n)
  -- from a rate and a term of 1 up each of the three growths is above 1, so that no share divides by 0
  pub grown :
      (i n : ℕ) → 1 ≤ i → 1 ≤ n →
      AboveOne (rounded_growth floor i n) × AboveOne (exact_growth i n) × AboveOne (rounded_growth ceiling i n)
  -- "S falls as growth rises": of any two growths above 1
  pub share_falls : (i : ℕ) (g h : Fraction) → 0 < i → AboveOne g → AboveOne h → g ≺ h → share i h ≺ share i g
  -- "so the two growth figures enclose it", from a rate and a term of 1 up
  pub share_enclosed :
      (i n : ℕ) → 1 ≤ i → 1 ≤ n →
      (share i (rounded_growth ceiling i n) ≼ share i (exact_growth i n)) × (share i (exact_growth i n) ≼ share i (rounded_growth floor i n))
  -- "to the nearest 0.0001, a half going up"
  pub half_up : (n : ℕ) → nearest ((2 * n + 1) over 2) ≡ n + 1
  -- the first case that holds, or a share; the listed order
  pub first : (i n : ℕ) → FirstOrComplete (cases i n) (share_by floor i n ∷ []) (share_response i n)
  pub order : (i n : ℕ) → numbers (cases i n) ≡ (41 ∷ 42 ∷ [])
  -- "n runs from 2 to 30, since one year would give more than 1"
  pub one_year : (i : ℕ) → 1 ≤ i → exact_share i 1 ≡ 10_000 + i
  -- whatever is given is the exact share so rounded
  pub given_exact : (i n : ℕ) (given : List ℕ) → share_response i n ≡ complete given → given ≡ (exact_share i n ∷ [])
  -- and may stand on a sheet: "S, yearly share | 0.0001 | 1 to 10,000" (01, "The sheet: 24 bytes")
  pub on_a_sheet : (i n s : ℕ) → share_response i n ≡ complete (s ∷ []) → (1 ≤ s) × (s ≤ 10_000)
