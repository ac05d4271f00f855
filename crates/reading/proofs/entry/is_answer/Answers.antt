-- A stored entry is worked out again and compared.
use lib.Pointwise.{bytes_decides}
use Rattle.book.proofs.Sameness.{compared}
use Rattle.reading.proofs.entry.is_answer.Goals as goal

pub returns-in-Ok : goal.returns-in-Ok
returns-in-Ok c = rw (← c.in-Ok.ensures, ← c.encode.ensures, ← c.as_slice.ensures, c.eq.ensures) (compared _ _ _ (bytes_decides _ _))
