-- Each whole table passes the rule, by one test that antt computes.
-- Assumes nothing.
use lib.Dec.{T}
use Rattle.quadrature.specs.Sums.{summed}
use Rattle.quadrature.specs.Figures.{lower_step, upper_step}
use Rattle.annex_tables.specs.declared.lower.TheConstants.{SUMS as lower_sums}
use Rattle.annex_tables.specs.declared.upper.TheConstants.{SUMS as upper_sums}
use Rattle.annex_tables.proofs.Rule.{rule}

pub table_ruled : T (rule lower_step lower_sums) × T (rule upper_step upper_sums)
unfolding summed lower_step upper_step
table_ruled = (tt, tt)
