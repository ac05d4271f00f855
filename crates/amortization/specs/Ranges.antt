-- The ranges of a rate and a term. 02, N1: "The rate i counts 0.0001 and runs from 1 to 3,000; n runs from 2 to 30".
-- Assumes nothing.
use Rattle.std.specs.Prelude.{ℕ, ◌≤◌}

pub record InRange (i n : ℕ) : Type 0 where
  pub rate_least : 1 ≤ i
  pub rate_most : i ≤ 3_000
  pub term_least : 2 ≤ n
  pub term_most : n ≤ 30
