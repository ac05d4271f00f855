-- The four pieces are one.
use Rattle.std.proofs.Common.{append_assoc}
use Rattle.annex.proofs.put_page.Goals as goal

pub returns-clause-written : goal.returns-clause-written
returns-clause-written g c = rw (c.put_limits.ensures.written, c.put-2.ensures, c.put_figures.ensures.written, c.put.ensures) (simp append_assoc)
