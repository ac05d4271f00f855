-- A limit of heat loss as the code hands it over.
-- Assumes nothing.
use Rattle.std.specs.Prelude.{ℕ, eqb, if◌then◌else◌, Option, Some, None}

-- of a limit as the definitions give it, 0 standing for none
abbrev pub printed : ℕ → Option ℕ
printed limit = if eqb limit 0 then None else Some limit
