-- Economy that counts the jacket. 02, N6: "Have and need both depend on the rung: need has P + 20,000 × aim / E in place of P, and have is
-- divided by the root of 1 − 200L / (αE)." The formula is 5.2.1-2 of 001, "with exergy coefficient 1".
-- Assumes nothing.
use Rattle.std.specs.Prelude.{ℕ, ◌-◌, ◌*◌, cond, leb}
use Rattle.fractions.specs.Fraction.{Fraction, ◌over◌, plus, times}
use Rattle.lengths.specs.declared.units.Diameter.{Diameter}
use Rattle.lengths.specs.declared.units.Thickness.{Thickness}
use Rattle.lengths.specs.Units.{outer_diameter}
use Rattle.line.specs.declared.Line.{Line}
use Rattle.line.specs.declared.Shape.TheVariants.{Cylinder}
use Rattle.requirement.specs.declared.EconomyTerms.{EconomyTerms}
use Rattle.requirement.specs.Required.{economy_squared}
use Rattle.requirement.specs.Criterion.{Criterion}
use Rattle.requirement.specs.Criterion.Criterion.{squared, unattainable}

-- "P + 20,000 × aim / E": what insulation costs with a jacket of so many yuan/m², on an outer diameter E
abbrev pub price_with_jacket : EconomyTerms → ℕ → Diameter → Fraction
price_with_jacket e jacket E = plus (e.insulation over 1) ((20_000 * jacket) over E.0)

-- Of a rung of k mm, what the square of have is compared with: "A rung meets when the square of under-have is at or above that difference
-- times the exact square of need. It misses when the square of over-have is below it." "A rung where the difference is not positive misses,
-- exactly read as well.": it is positive where E exceeds 200L / α, the critical diameter of insulation.
unfoldable pub jacketed : Line → ℕ → EconomyTerms → ℕ → Thickness → Criterion
jacketed l Δ e jacket k =
    let E = outer_diameter l.diameter k in
    let αE = l.coefficient * E.0 in
    let 200L = 200 * l.conductivity in
    let difference = (αE - 200L) over αE in
    cond (leb αE 200L) unattainable (squared (times difference (economy_squared Cylinder l Δ e (price_with_jacket e jacket E))))
