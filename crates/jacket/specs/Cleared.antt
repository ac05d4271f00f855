-- The criterion of a jacketed pipe as it is worked out on paper. 02, N6: "Fractions are cleared first and nothing else is rounded."
-- Assumes nothing.
use Rattle.std.specs.Prelude.{ℕ, ◌+◌, ◌*◌}
use Rattle.fractions.specs.Fraction.{Fraction, ◌over◌}
use Rattle.lengths.specs.declared.units.Diameter.{Diameter}
use Rattle.line.specs.declared.Line.{Line}
use Rattle.requirement.specs.declared.EconomyTerms.{EconomyTerms}

-- What the square of have is compared with on an outer diameter E, where αE exceeds 200L by d: the difference d / (αE) times
-- "14,402,025,000 × fLτΔ / (PS)" (01), with P + 20,000 × aim / E in place of P. E has cancelled.
abbrev pub cleared : Line → ℕ → EconomyTerms → ℕ → Diameter → ℕ → Fraction
cleared l Δ e aim E d =
    (14_402_025_000 * (e.heat * l.conductivity * e.hours * Δ) * d) over ((e.insulation * E.0 + 20_000 * aim) * e.share * l.coefficient)
