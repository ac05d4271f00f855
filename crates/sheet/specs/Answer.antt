-- The answer to a sheet. 01, "The answer: 8 bytes", and 02, N4 to N7.
-- Assumes nothing.
use Rattle.std.specs.Prelude.{ℕ, ◌*◌, List}
use Rattle.fractions.specs.declared.Bounds.{Bounds}
use Rattle.fractions.specs.Fraction.{Fraction, ◌over◌}
use Rattle.fractions.specs.Rounding.{ceiling}
use Rattle.kinds.specs.declared.Kind.{Kind}
use Rattle.kinds.specs.declared.Kind.TheVariants.{Standard}
use Rattle.lengths.specs.Ladder.{thickness_at}
use Rattle.temperatures.specs.declared.Temperature.{Temperature}
use Rattle.heat_flow.specs.HeatFlow.{bounded}
use Rattle.line.specs.declared.Line.{Line}
use Rattle.line.specs.Line.{shape_of}
use Rattle.provision.specs.Provided.{film, provided}
use Rattle.answer.specs.declared.Answer.{Answer}
use Rattle.answer.specs.Answer.{encoded}
use Rattle.sheet.specs.declared.fields.Sheet.{Sheet}
use Rattle.sheet.specs.Sheet.{decoded_as, difference}
use Rattle.sheet.specs.Checks.{loss_check, surface_check}
use Rattle.sheet.specs.Passes.{deciding_pass, chosen}

-- how far the surface lies beyond the air, p being provided: "2L × 10⁷ × Δ / (α × under-have)", "flat with L in place of 2L". The film is
-- 2L × 10⁷ / α, and on a flat wall L × 10⁷ / α.
abbrev pub surface_difference : Line → ℕ → Fraction → Fraction
surface_difference l Δ p = ((film l).num * Δ * p.den) over ((film l).den * p.num)

-- "Surface bound: ta plus 2L × 10⁷ × Δ / (α × under-have) rounded up, flat with L in place of 2L, and never above t."; on a cold line "ta
-- minus the quotient rounded up, and never below t" (02, N4)
unfoldable pub surface_bound : Sheet → Bounds → Temperature
surface_bound s p =
    bounded s.flow s.temperature s.ambient (ceiling (surface_difference s.line (difference s) (p.lower over 1)))

-- the answer with the rung of index r: "Checks and bound are then those of the second rung." (02, N5); "Both checks and the bound use the
-- undivided have." (02, N6)
unfoldable pub answer_of : Sheet → ℕ → Answer
answer_of s r =
    let p = provided s.line (thickness_at r) in
    record {
      pass = deciding_pass s;
      shape = shape_of s.line;
      thickness = thickness_at r;
      loss = loss_check s p;
      surface = surface_check s p;
      bound = surface_bound s p;
    }

-- the eight bytes for a sheet of a kind, and for a standard one: those of the chosen rung
abbrev pub answer_as : Kind → List ℕ → List ℕ
answer_as kind sheet = let s = decoded_as kind sheet in encoded (answer_of s (chosen s))

abbrev pub answer : List ℕ → List ℕ
answer = answer_as Standard
