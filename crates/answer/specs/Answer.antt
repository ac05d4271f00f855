-- The bytes of an answer. 01, "The answer: 8 bytes", and 02, N5.
-- Assumes nothing.
use Rattle.std.specs.Prelude.{ℕ, List, ◌∷◌, ◌++◌, Option, Some, None}
use Rattle.line.specs.declared.Shape.{Shape}
use Rattle.line.specs.declared.Shape.TheVariants.{Cylinder, Flat}
use Rattle.verdict.specs.declared.Verdict.{Verdict}
use Rattle.verdict.specs.declared.Verdict.TheVariants.{Sufficient, Insufficient, Undecided}
use Rattle.answer.specs.declared.Answer.{Answer}
use Rattle.answer.specs.declared.Pass.{Pass}
use Rattle.answer.specs.declared.Pass.TheVariants.{First, Second}
use Rattle.big_endian.specs.Bytes.{bytes_of}
use Rattle.temperatures.specs.Temperature.{encoded as twos_complement}

-- "Byte 0 is 0."; after a second pass, "Byte 0 of the answer is then 1 in place of 0." (02, N5)
abbrev pub pass_code : Pass → ℕ
pass_code First = 0
pass_code Second = 1

-- "Byte 1: 1 cylinder, 2 flat."
abbrev pub shape_code : Shape → ℕ
shape_code Cylinder = 1
shape_code Flat = 2

-- "0 within, 1 over, 2 too close"
abbrev pub check_code : Verdict → ℕ
check_code Sufficient = 0
check_code Insufficient = 1
check_code Undecided = 2

-- "3 none printed"
abbrev pub loss_code : Option Verdict → ℕ
loss_code (Some v) = check_code v
loss_code None = 3

-- Byte 0 tells the pass. "Byte 1: 1 cylinder, 2 flat. Bytes 2–3: thickness in mm. Byte 4, loss check … Byte 5, surface check … Bytes 6–7:
-- surface bound in 0.1 °C, signed."
unfoldable pub encoded : Answer → List ℕ
encoded a =
    pass_code a.pass ∷ shape_code a.shape ∷
    (bytes_of 2 a.thickness.0 ++ (loss_code a.loss ∷ check_code a.surface ∷ bytes_of 2 (twos_complement a.bound)))
