-- The search goes through the sheet's own fields.
use Rattle.std.proofs.Common.{◌++◌}
use Rattle.refusals.specs.Numbers.{number_of}
use Rattle.sheet.specs.Sheet.{uses_economy, uses_aim}
use Rattle.sheet.specs.Fields.{codes, line_fields, economy_fields}
use Rattle.sheet.proofs.FirstFault.{aim_at_end}
use Rattle.sheet.proofs.fields.Sheet.fault.Goals as goal

pub returns : goal.returns
returns c =
    let s = c.args.self in
    rw (c.first_fault.ensures, c.fields.ensures)
    (aim_at_end (number_of c.args.why) s (uses_aim s.counts_jacket s.goal) (codes s ++ line_fields s ++ economy_fields (uses_economy s.goal) s))
