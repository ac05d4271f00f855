-- The products of the economy goal fit 64 bits.
-- Assumes nothing.
use Prim.Native.Nat.{ℕ, ◌*◌, ◌≤◌, ◌<◌}
use native.Mathlib.Nat.{mul-le-mul, mul-pos}
use Rattle.line.specs.declared.Line.{Line}
use Rattle.line.specs.Range.{LineInRange}
use Rattle.requirement.specs.declared.EconomyTerms.{EconomyTerms}
use Rattle.requirement.specs.Ranges.{EconomyInRange}

pub record EconomySizes (l : Line) (Δ : ℕ) (c : EconomyTerms) : Type 0 where
  pub two : c.heat * l.conductivity ≤ 65_535 * 2_000
  pub three : c.heat * l.conductivity * c.hours ≤ 65_535 * 2_000 * 8_784
  pub four : c.heat * l.conductivity * c.hours * Δ ≤ 65_535 * 2_000 * 8_784 * 7_000
  pub outlay : c.insulation * c.share ≤ 65_535 * 10_000
  pub some_outlay : 0 < c.insulation * c.share

pub economy_sizes : (l : Line) (Δ : ℕ) (c : EconomyTerms) → LineInRange l → Δ ≤ 7_000 → EconomyInRange c → EconomySizes l Δ c
economy_sizes l Δ c line le terms =
    let first : c.heat * l.conductivity ≤ 65_535 * 2_000 = mul-le-mul terms.heat_to line.conductivity_to in
    let second : c.heat * l.conductivity * c.hours ≤ 65_535 * 2_000 * 8_784 = mul-le-mul first terms.hours_to in
    record {
      two = first;
      three = second;
      four = mul-le-mul second le;
      outlay = mul-le-mul terms.insulation_to terms.share_to;
      some_outlay = mul-pos terms.insulation_from terms.share_from;
    }
