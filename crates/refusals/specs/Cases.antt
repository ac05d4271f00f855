-- Refusals as numbered cases, of which the first that holds counts.
-- Assumes nothing.
use Rattle.std.specs.Prelude.{ℕ, ◌≡◌, ◌⊎◌, Bool, true, false, List, [], ◌∷◌}

-- a refusal's number, and whether its case holds
pub record Case : Type 0 where
  pub number : ℕ
  pub holds : Bool

abbrev pub case : ℕ → Bool → Case
case n b = record { number = n; holds = b }

-- the numbers of a list of cases
unfoldable pub numbers : List Case → List ℕ
numbers [] = []
numbers (c ∷ cs) = c.number ∷ numbers cs

-- no case of a list holds
unfoldable pub NoneHolds : List Case → Type 0
NoneHolds [] = Unit {0}
NoneHolds (c ∷ cs) = (c.holds ≡ false) × NoneHolds cs

-- n is the number of the first case of a list that holds
unfoldable pub FirstHolds : ℕ → List Case → Type 0
FirstHolds n [] = ⊥
FirstHolds n (c ∷ cs) = ((c.holds ≡ true) × (c.number ≡ n)) ⊎ ((c.holds ≡ false) × FirstHolds n cs)
