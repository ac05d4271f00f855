-- What the call of a yearly share responds.
-- Assumes nothing.
use Rattle.std.specs.Prelude.{ℕ, Result, [], ◌∷◌}
use Rattle.refusals.specs.declared.Refusal.{Refusal}
use Rattle.refusals.specs.Response.{Response}
use Rattle.refusals.specs.Returned.{response_of}

-- its refusal, or the share
abbrev pub response : Result ℕ Refusal → Response
response = response_of (λ s. s ∷ [])
