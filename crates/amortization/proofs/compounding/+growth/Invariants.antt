-- The years left.
use Rattle.amortization.proofs.compounding.+growth.Given as goal

abbrev pub decreases-growth : goal.decreases-growth
decreases-growth g l = l.left
