-- What a program says on standard error where it has to stop.
-- Assumes nothing.
use Rattle.std.specs.Prelude.{ℕ, List, ◌++◌}
use Rattle.text.specs.Text.{ascii}
use Rattle.streams.specs.declared.Failure.{Failure}
use Rattle.streams.specs.declared.Failure.TheVariants.{Read, Write}

-- of a read or a write that failed
abbrev pub words : Failure → List ℕ
words Read = ascii "cannot read"
words Write = ascii "cannot write"

-- the program's name, and why it stops
abbrev pub complaint : List ℕ → List ℕ → List ℕ
complaint program why = program ++ ascii ": " ++ why ++ ascii "\n"
