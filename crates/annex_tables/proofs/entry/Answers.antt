-- Each side is the entry of a table that passes the rule.
use Rattle.std.proofs.Common.{◌∙◌}
use Rattle.fractions.proofs.Sides.{both_of}
use Rattle.quadrature.specs.Figures.{lower_step, upper_step}
use Rattle.annex_tables.specs.declared.lower.TheConstants.{SUMS as lower_sums}
use Rattle.annex_tables.specs.declared.upper.TheConstants.{SUMS as upper_sums}
use Rattle.annex_tables.proofs.Rule.{ruled_entry}
use Rattle.annex_tables.proofs.Tables.{table_ruled}
use Rattle.annex_tables.proofs.entry.Goals as goal

pub returns : goal.returns
returns c =
    both_of
    (c.sum_at-lower.ensures ∙ ruled_entry lower_step lower_sums table_ruled.0 c.args.k c.requires)
    (c.sum_at-upper.ensures ∙ ruled_entry upper_step upper_sums table_ruled.1 c.args.k c.requires)
