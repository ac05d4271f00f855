-- The product of the year after fits.
use Rattle.std.proofs.Common.{◌≡◌, arith}
use Rattle.amortization.specs.Growth.{growth}
use Rattle.amortization.proofs.Growth.{year_fits}
use Rattle.amortization.proofs.compounding.+growth.Goals as goal

pub returns-then-more : goal.returns-then-more
unfolding growth
returns-then-more g t c =
    let round = g.R.Rounding.rounded in
    let value : c.round.result ≡ growth round c.args.rate c.args.left = grind arith in
    record { value = value; fits = rw value (year_fits round g.met.R.Rounding.at_most c.args.rate c.args.left c.requires.rate_bound c.requires.left_bound) }
