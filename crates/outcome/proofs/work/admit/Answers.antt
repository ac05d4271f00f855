-- With no case that holds the sheet is admitted.
use Rattle.std.proofs.Common.{rules}
use Rattle.refusals.specs.Cases.{NoneHolds}
use Rattle.sheet.proofs.Admitted.{admitted}
use Rattle.outcome.proofs.work.admit.Goals as goal

pub of-requires-clause-admitted : goal.of-requires-clause-admitted
unfolding NoneHolds
of-requires-clause-admitted c = admitted c.args.sheet (search rules)
