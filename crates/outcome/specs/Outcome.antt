-- What the call that answers a sheet responds. 01, "Matching forms to places": "The definition gives this paper's number and values for
-- each of the enum's cases."
-- Assumes nothing.
use Rattle.std.specs.Prelude.{Result}
use Rattle.refusals.specs.declared.Refusal.{Refusal}
use Rattle.refusals.specs.Response.{Response}
use Rattle.refusals.specs.Returned.{response_of}
use Rattle.answer.specs.declared.Answer.{Answer}
use Rattle.answer.specs.Answer.{encoded}

-- the number of the refusal, or the answer's bytes
abbrev pub response : Result Answer Refusal → Response
response = response_of encoded
