-- A response, as the calls for Rust and C give it.
-- Assumes nothing.
use Rattle.std.specs.Prelude.{ℕ, List}
use Rattle.refusals.specs.Response.{Response, refused, complete}

-- what is returned: the refusal's number, or 0 where the call is complete
abbrev pub code : Response → ℕ
code (refused n) = n
code (complete values) = 0

-- what stands in the array lent for the answer: the bytes of a complete response, or what was there
abbrev pub handed : Response → List ℕ → List ℕ
handed (refused n) old = old
handed (complete bytes) old = bytes
