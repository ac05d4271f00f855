-- What a call that returns a Result responds. 01, "Matching forms to places": "The definition gives this paper's number and values for each
-- of the enum's cases."
-- Assumes nothing.
use Rattle.std.specs.Prelude.{ℕ, List, Result, Ok, Err}
use Rattle.refusals.specs.Numbers.{number_of}
use Rattle.refusals.specs.Response.{Response, refused, complete}
use Rattle.refusals.specs.declared.Refusal.{Refusal}

-- the refusal's number, or the values of what is returned
abbrev pub response_of : {A : Type 0} → (A → List ℕ) → Result A Refusal → Response
response_of values (Err why) = refused (number_of why)
response_of values (Ok a) = complete (values a)

-- of a call that leaves its bytes in lent arrays
abbrev pub response_with : Result (Unit {0}) Refusal → List ℕ → Response
response_with result bytes = response_of (λ _. bytes) result
