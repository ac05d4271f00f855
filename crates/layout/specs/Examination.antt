-- What an examination of a book says.
-- Assumes nothing.
use Rattle.std.specs.Prelude.{Result, [], ◌∷◌}
use Rattle.refusals.specs.declared.Refusal.{Refusal}
use Rattle.refusals.specs.Response.{Response}
use Rattle.refusals.specs.Returned.{response_of}
use Rattle.layout.specs.declared.book.Book.{Book}

-- its refusal, or the two sizes
abbrev pub examined : Result Book Refusal → Response
examined = response_of (λ b. b.sizes.capacity ∷ b.sizes.count ∷ [])
