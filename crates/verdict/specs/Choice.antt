-- The search of the ladder, as the code answers it. 01, "Ladder and figures".
-- Assumes nothing.
use Rattle.std.specs.Prelude.{ℕ, cond, ltb, Option, Some, None}
use Rattle.fractions.specs.declared.Bounds.{Bounds}
use Rattle.lengths.specs.Ladder.{rungs, thickness_at}
use Rattle.line.specs.declared.Line.{Line}
use Rattle.verdict.specs.declared.Verdict.{Verdict}
use Rattle.verdict.specs.declared.choice.Rung.{Rung}
use Rattle.provision.specs.Provided.{provided}
use Rattle.verdict.specs.Verdict.{judged, first_not_insufficient}

-- the verdict on the rung with index r of the line l, where whole numbers q enclose what is required at every thickness
abbrev pub verdict_for : Line → Bounds → ℕ → Verdict
verdict_for l q r = judged (provided l (thickness_at r)) q

-- the rung with index r of the line l, with what it provides and its verdict
abbrev pub rung : Line → (ℕ → Verdict) → ℕ → Rung
rung l v r = record { index = r; provided = provided l (thickness_at r); verdict = v r }

-- "The first rung that doesn't miss"; none where all miss
abbrev pub searched : Line → (ℕ → Verdict) → Option Rung
searched l v =
    let r = first_not_insufficient v in
    cond (ltb r rungs) (Some (rung l v r)) None
