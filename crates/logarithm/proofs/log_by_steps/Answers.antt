-- One step more: both sides grow by the step's bounds, and fit.
use Rattle.std.proofs.Common.{◌∙◌, arith}
use Rattle.logarithm.proofs.Steps.{Next, next, none}
use Rattle.logarithm.proofs.log_by_steps.Goals.{After-step}
use Rattle.logarithm.proofs.log_by_steps.Goals as goal

after : (c : After-step) → Next c.args.d.0 c.loop-i.i c.loop-i.log c.step.result
after c = next c.requires.0 c.loop-i.invariant.0 (omega arith) c.loop-i.invariant.1 c.step.ensures (omega arith)

pub loop-i-init : goal.loop-i-init
loop-i-init c = (omega arith, c.exact-log.ensures ∙ none c.args.d.0)

pub add-log-requires : goal.add-log-requires
add-log-requires c = omega (arith, after (goal.at.add-log-requires c).After-step)

pub loop-i-preserved : goal.loop-i-preserved
loop-i-preserved c = (omega arith, c.add-log.ensures ∙ (after (goal.at.loop-i-preserved c).After-step).sum)
