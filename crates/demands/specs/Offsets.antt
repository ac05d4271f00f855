-- Which bytes each field is read from: what the cases 12 to 14 of demand 1 speak of. 01, "The sheet: 24 bytes", and 02, N7.
-- Assumes nothing.
use Rattle.std.specs.Prelude.{ℕ, ◌≡◌, cond, ◌||◌, ltb, eqb, get_or}
use mathlib.Core.List.{List, [], ◌∷◌, map, Memᴰ}
use Rattle.kinds.specs.declared.Kind.{Kind}
use Rattle.kinds.specs.Kind.{moved}
use Rattle.big_endian.specs.Bytes.{big_endian}
use Rattle.temperatures.specs.Temperature.{decoded as signed}
use Rattle.sheet.specs.Sheet.{decoded_as}
use Rattle.sheet.specs.declared.faults.Field.{Field}
use Rattle.sheet.specs.Fields.{fields}

-- what stands at an offset of the table: the codes have one byte; every other field has two, which stand two bytes further on in a larger
-- sheet; t and ta are signed
abbrev pub stands_at : Kind → List ℕ → ℕ → ℕ
stands_at kind b offset =
    let number = big_endian b (moved kind offset) 2 in
    cond (ltb offset 2) (get_or b offset 0) (cond (eqb offset 6 || eqb offset 8) (signed number).0 number)

pub record Offsets : Type 0 where
  -- the list of fields and ranges has every field but the line number, in the order of their offsets; the aim is in it for goals 1, 5
  -- and 6 only
  pub order :
      (kind : Kind) (b : List ℕ) →
      map (λ (f : Field). f.offset) (fields (decoded_as kind b)) ≡
      (0 ∷ 1 ∷ 4 ∷ 6 ∷ 8 ∷ 10 ∷ 12 ∷ 14 ∷ 16 ∷ 18 ∷ 20 ∷ cond (eqb (get_or b 0 0) 1 || eqb (get_or b 0 0) 5 || eqb (get_or b 0 0) 6) (22 ∷ []) [])
  -- the value of each is what stands at its offset
  pub values : (kind : Kind) (b : List ℕ) (f : Field) → Memᴰ f (fields (decoded_as kind b)) → f.value ≡ stands_at kind b f.offset
