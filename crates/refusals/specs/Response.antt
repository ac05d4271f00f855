-- What a call answers, by the paper.
-- Assumes nothing.
use Rattle.std.specs.Prelude.{ℕ, ◌≡◌, ◌⊎◌, true, false, List, [], ◌∷◌}
use Rattle.refusals.specs.Cases.{Case, NoneHolds, FirstHolds}

-- 01, "Sent back because of the sheet": "A refusal returns its number alone." A complete call has values: bytes, or a yearly share.
pub data Response : Type 0 where
  refused : ℕ → Response
  complete : List ℕ → Response

-- "Tests run in this order.": of a call with this list of cases, and these values where none holds
unfoldable pub respond : List Case → List ℕ → Response
respond [] values = complete values
respond (c ∷ cs) values = elim c.holds [ true ↦ refused c.number | false ↦ respond cs values ]

-- What a call leaves where `old` was lent: `new` where it is complete. 01, "Sent back because of the book": "No refusal changes a byte."
abbrev pub after : {A : Type 0} → Response → A → A → A
after (refused n) new old = old
after (complete values) new old = new

-- Demand 1 of 00, of such a call: its answer "is the number of the first listed refusal, in the listed order, whose stated case holds,
-- and is complete when none holds".
abbrev pub FirstOrComplete : List Case → List ℕ → Response → Type 0
FirstOrComplete cases values r = ((n : ℕ) × FirstHolds n cases × (r ≡ refused n)) ⊎ (NoneHolds cases × (r ≡ complete values))
