-- The listing: of the sheets F and G, and of no input, by computation.
-- Assumes nothing.
use mathlib.Core.Path.{refl}
use Rattle.refusals.specs.Response.{respond}
use Rattle.big_endian.specs.Bytes.{big_endian, bytes_of}
use Rattle.text.specs.Text.{decimal_up_to, decimal, concatenated}
use Rattle.quadrature.specs.Figures.{lower_step, upper_step}
use Rattle.roots.specs.Least.{least}
use Rattle.requirement.specs.Required.{requirement, enclosing}
use Rattle.provision.specs.Provided.{insulation, film, insulation_bounds, film_bounds, provided}
use Rattle.verdict.specs.Verdict.{first_not_insufficient}
use Rattle.answer.specs.Answer.{encoded}
use Rattle.limits.specs.Limits.{neighbours, loss_limit}
use Rattle.sheet.specs.Sheet.{decoded_as}
use Rattle.sheet.specs.Fields.{first_fault}
use Rattle.sheet.specs.Checks.{loss_check, surface_check}
use Rattle.sheet.specs.Passes.{check_between}
use Rattle.sheet.specs.Answer.{surface_bound, answer_of}
use Rattle.listing_text.specs.Line.{line_of}
use Rattle.worked.specs.Listing.{WorkedListing}
use Rattle.worked.proofs.Cut.{listing_cut}

pub worked_listing : WorkedListing
unfolding lower_step upper_step least insulation film insulation_bounds film_bounds provided requirement enclosing first_not_insufficient big_endian bytes_of decoded_as neighbours loss_limit loss_check surface_check check_between surface_bound encoded answer_of first_fault respond decimal_up_to decimal concatenated line_of
worked_listing = record { f_then_g = refl; empty = refl; in_blocks = listing_cut }
