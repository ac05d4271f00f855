-- What is promised of goal 6, beside the demands and `SurfaceBound`, which speak of every goal. 02, N5: "Economy that respects the loss
-- limit." An answer has eight bytes (`AnswerTo.size`), so every byte of it that is read here is there.
-- Assumes nothing.
use Rattle.std.specs.Prelude.{ℕ, ◌+◌, ◌*◌, ◌≤◌, ◌<◌, ◌≡◌, false, ◌⊎◌, List, ◌∷◌, ◌++◌, get_or, replicate, take, drop}
use Rattle.lengths.specs.Ladder.{thickness_at}
use Rattle.refusals.specs.Response.{Response, refused, complete}
use Rattle.big_endian.specs.Bytes.{big_endian, bytes_of}
use Rattle.requirement.specs.declared.Goal.TheVariants.{Loss}
use Rattle.answer.specs.declared.Pass.TheVariants.{First}
use Rattle.limits.specs.Limits.{loss_limit}
use Rattle.sheet.specs.declared.fields.Sheet.{Sheet}
use Rattle.sheet.specs.Sheet.{decoded, goal_of}
use Rattle.sheet.specs.Passes.{second_aim, deciding_pass, deciding_goal}
use Rattle.sheet.specs.Refusals.{response_to}
use Rattle.demands.specs.Demands.{Found}

-- the bytes of a sheet, and those of its answer, byte 0 of which is n
pub record AnswerWith (n : ℕ) (sheet bytes : List ℕ) : Type 0 where
  pub answered : response_to sheet ≡ complete bytes
  pub start : get_or bytes 0 0 ≡ n

-- the loss sheet with an aim for the same line: goal 2, with zeros at offsets 14–21; `rest` is a sheet without its first byte
abbrev pub loss_sheet : List ℕ → ℕ → List ℕ
loss_sheet rest aim = 2 ∷ (take 13 rest ++ replicate 8 0 ++ bytes_of 2 aim)

-- a response with 1 in place of the first byte
abbrev pub with_byte_0_as_1 : Response → Response
with_byte_0_as_1 (refused n) = refused n
with_byte_0_as_1 (complete bytes) = complete (1 ∷ drop 1 bytes)

-- "Goal 6 is goal 1 with that second pass": what the sheet of goal 6 gives, by what that of goal 1 gives with all other bytes the same
pub record AsGoal1 (rest : List ℕ) : Type 0 where
  pub refused_alike : (n : ℕ) → response_to (1 ∷ rest) ≡ refused n → response_to (6 ∷ rest) ≡ refused n
  -- a loss check that reads within, or none printed: the same answer
  pub within : (bytes : List ℕ) → response_to (1 ∷ rest) ≡ complete bytes → (get_or bytes 4 0 ≡ 0) ⊎ (get_or bytes 4 0 ≡ 3) → response_to (6 ∷ rest) ≡ complete bytes
  -- "If the check says too close, the sheet gets 18."
  pub close : (bytes : List ℕ) → response_to (1 ∷ rest) ≡ complete bytes → get_or bytes 4 0 ≡ 2 → response_to (6 ∷ rest) ≡ refused 18
  -- "If the loss check says over, the rung is found again by the loss method with 90 per cent of the limit in tenths, rounded down. Byte 0
  -- of the answer is then 1 in place of 0." "The second pass can meet 17 and 18 as the first can. Checks and bound are then those of the
  -- second rung.": all is as for the loss sheet with that aim, but for byte 0
  pub over :
      (bytes : List ℕ) → response_to (1 ∷ rest) ≡ complete bytes → get_or bytes 4 0 ≡ 1 →
      response_to (6 ∷ rest) ≡ with_byte_0_as_1 (response_to (loss_sheet rest (second_aim (decoded (6 ∷ rest)))))

pub record WithinLimit : Type 0 where
  -- "90 per cent of the limit in tenths, rounded down"
  pub aim : (s : Sheet) → let limit = loss_limit s.service s.temperature in (100 * second_aim s ≤ 90 * limit) × (90 * limit < 100 * (second_aim s + 1))
  -- a goal that does not respect the limit, such as goals 1 to 5 and 7, has one pass, by the sheet's own goal
  pub one_pass : (s : Sheet) → s.respects_limit ≡ false → (deciding_pass s ≡ First) × (deciding_goal s ≡ goal_of s)
  pub as_goal_1 : (rest : List ℕ) → AsGoal1 rest
  -- byte 0 is 0 or 1, and 1 for goal 6 only
  pub goal_6_only : (sheet bytes : List ℕ) → response_to sheet ≡ complete bytes → (get_or bytes 0 0 ≡ 0) ⊎ ((get_or bytes 0 0 ≡ 1) × (get_or sheet 0 0 ≡ 6))
  -- it tells the goal that decides: "For such an answer the exact equation of demand 3 is the loss one of the second pass."
  pub first_equation : (sheet bytes : List ℕ) → AnswerWith 0 sheet bytes → let s = decoded sheet in deciding_goal s ≡ goal_of s
  pub second_equation : (sheet bytes : List ℕ) → AnswerWith 1 sheet bytes → let s = decoded sheet in deciding_goal s ≡ Loss (second_aim s)
  -- the loss check of the second rung reads within, though its limit is the whole one
  pub check_within : (sheet bytes : List ℕ) → AnswerWith 1 sheet bytes → get_or bytes 4 0 ≡ 0
  -- it is thicker than the rung that the first pass found; there is one, by `AnswerTo.pass`
  pub thicker :
      (sheet bytes : List ℕ) → AnswerWith 1 sheet bytes → let s = decoded sheet in (first : Found s (goal_of s)) → (thickness_at first.rung).0 < big_endian bytes 2 2
