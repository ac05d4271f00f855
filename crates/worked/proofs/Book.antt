-- The books worked by hand, by computation.
-- Assumes nothing.
use mathlib.Core.Path.{refl}
use native.Mathlib.Omega.{arith}
use Rattle.refusals.specs.Response.{respond}
use Rattle.overlay.specs.Overlay.{overlay}
use Rattle.big_endian.specs.Bytes.{big_endian, bytes_of}
use Rattle.quadrature.specs.Figures.{lower_step, upper_step}
use Rattle.roots.specs.Least.{least}
use Rattle.requirement.specs.Required.{requirement, enclosing}
use Rattle.provision.specs.Provided.{insulation, film, insulation_bounds, film_bounds, provided}
use Rattle.verdict.specs.Verdict.{first_not_insufficient}
use Rattle.answer.specs.Answer.{encoded}
use Rattle.limits.specs.Limits.{neighbours, loss_limit}
use Rattle.sheet.specs.Sheet.{decoded_as}
use Rattle.sheet.specs.Fields.{first_fault}
use Rattle.sheet.specs.Checks.{loss_check, surface_check}
use Rattle.sheet.specs.Passes.{check_between}
use Rattle.sheet.specs.Answer.{surface_bound, answer_of}
use Rattle.layout.specs.OwnKind.{own_kind}
use Rattle.book.specs.Book.{new_book}
use Rattle.book.specs.Refusals.{same_bytes}
use Rattle.worked.specs.Book.{WorkedBook, WorkedLargerBook}

pub worked_book : WorkedBook
unfolding overlay lower_step upper_step least insulation film insulation_bounds film_bounds provided requirement enclosing first_not_insufficient big_endian bytes_of decoded_as neighbours loss_limit loss_check surface_check check_between surface_bound encoded answer_of first_fault respond new_book same_bytes
worked_book =
    record {
      size = λ c. omega arith;
      new_made = (refl, refl);
      first = (refl, refl);
      second = (refl, refl);
      read = (refl, refl);
      beyond = refl;
      full = (refl, refl);
      altered = refl;
    }

pub worked_larger_book : WorkedLargerBook
unfolding overlay lower_step upper_step least insulation film insulation_bounds film_bounds provided requirement enclosing first_not_insufficient big_endian bytes_of decoded_as neighbours loss_limit loss_check surface_check check_between surface_bound encoded answer_of first_fault respond new_book same_bytes own_kind
worked_larger_book =
    record {
      line = refl;
      size = λ c. omega arith;
      new_made = (refl, refl);
      first = (refl, refl);
      read = refl;
      beyond = refl;
      full = (refl, refl);
      other_size = (refl, refl);
      old_reader = refl;
    }
