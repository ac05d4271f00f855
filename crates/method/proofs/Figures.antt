-- The figures of docs/METHOD.md, by computation.
-- Assumes nothing.
use mathlib.Core.Path.{◌≡◌, refl}
use mathlib.Core.List.{flat_map}
use native.Mathlib.Omega.{arith}
use Rattle.fractions.specs.Fraction.{Fraction, ◌over◌}
use Rattle.refusals.specs.Response.{respond}
use Rattle.big_endian.specs.Bytes.{big_endian, bytes_of}
use Rattle.quadrature.specs.Sums.{summed}
use Rattle.quadrature.specs.Figures.{lower_step, upper_step}
use Rattle.quadrature.specs.Cuttings.{cut_sum}
use Rattle.roots.specs.Least.{least}
use Rattle.roots.specs.Root.{floor_root, ceiling_root}
use Rattle.requirement.specs.Required.{requirement, enclosing}
use Rattle.provision.specs.Provided.{insulation, film, insulation_bounds, film_bounds, provided}
use Rattle.verdict.specs.Verdict.{first_not_insufficient}
use Rattle.jacket.specs.Jacket.{jacketed}
use Rattle.answer.specs.Answer.{encoded}
use Rattle.limits.specs.Limits.{neighbours, loss_limit}
use Rattle.sheet.specs.Sheet.{decoded_as}
use Rattle.sheet.specs.Fields.{first_fault}
use Rattle.sheet.specs.Checks.{loss_check, surface_check}
use Rattle.sheet.specs.Passes.{check_between}
use Rattle.sheet.specs.Answer.{surface_bound, answer_of}
use Rattle.layout.specs.OwnKind.{own_kind}
use Rattle.book.specs.Refusals.{same_bytes}
use Rattle.worked.proofs.Examples.{root_low, root_high, low, high}
use Rattle.method.specs.Method.{Cylinder, Hotter, Between, FlatWall, BetweenRows, SecondPass, WithJacket, ColdLine, ColdWall, Entry, LargerEntry, Method}

the_cylinder : Cylinder
unfolding summed lower_step upper_step least insulation film insulation_bounds film_bounds provided requirement enclosing first_not_insufficient big_endian bytes_of decoded_as neighbours loss_limit loss_check surface_check check_between surface_bound encoded answer_of first_fault respond
the_cylinder =
    record {
      signed = refl;
      temperatures = (refl, refl);
      product = refl;
      squares = (refl, refl);
      required = rw (low, high);
      annex_27 = refl;
      annex_47 = refl;
      annex_67 = refl;
      to_470 = refl;
      to_670 = refl;
      film = refl;
      insulation_10 = refl;
      insulation_20 = refl;
      at_0 = refl;
      at_10 = refl;
      at_20 = refl;
      found = rw (low, high);
      no_limit = refl;
      limit_of_surface = refl;
      bound = (refl, refl);
      answer = rw (low, high);
    }

the_same_hotter : Hotter
unfolding summed lower_step upper_step least insulation film insulation_bounds film_bounds provided requirement enclosing first_not_insufficient big_endian bytes_of decoded_as neighbours loss_limit flat_map loss_check surface_check check_between surface_bound encoded answer_of first_fault respond
the_same_hotter =
    record {
      required = refl;
      limits = refl;
      row_1 = (refl, refl);
      limit_of_loss = refl;
      loss_required = refl;
      surface_required = refl;
      bound = refl;
      answer = refl;
    }

between_millimetres : Between
unfolding summed lower_step upper_step
between_millimetres =
    record {
      step_270 = refl;
      step_271 = refl;
      step_272 = refl;
      step_670 = refl;
      step_671 = refl;
      step_672 = refl;
      to_273 = refl;
      to_673 = refl;
      log = refl;
    }

the_flat_wall : FlatWall
unfolding summed cut_sum lower_step upper_step least insulation film insulation_bounds film_bounds provided requirement enclosing first_not_insufficient big_endian bytes_of decoded_as neighbours loss_limit loss_check surface_check check_between surface_bound encoded answer_of first_fault respond
the_flat_wall =
    record {
      at_0 = refl;
      at_10 = refl;
      at_20 = refl;
      at_30 = refl;
      at_40 = refl;
      loss_required = refl;
      surface_required = refl;
      bound = refl;
      above_open = refl;
      strip = refl;
    }

between_rows : BetweenRows
unfolding summed lower_step upper_step least insulation film insulation_bounds film_bounds provided requirement enclosing first_not_insufficient big_endian bytes_of decoded_as neighbours loss_limit flat_map loss_check surface_check check_between surface_bound encoded answer_of first_fault respond
between_rows =
    record {
      required = refl;
      at_30 = refl;
      at_40 = refl;
      places = (refl, refl, refl);
      rows = (refl, refl, refl, refl);
      line = (refl, refl);
      limit = (refl, refl);
      loss_required = refl;
      surface_required = refl;
      bound = refl;
      answer = refl;
      answer_by_row = refl;
    }

-- the economy requirement of the first pass: 3,598,609,000 × 1,000 × 400 × 4,000 × 1,100 / (3,000 × 2,296) under the root
abbrev radicand : Fraction
radicand = 6_333_551_840_000_000_000_000 over 6_888_000

cheap_low : floor_root radicand ≡ 30_323_344
cheap_low = root_low radicand 30_323_344 (omega arith) (omega arith) (omega arith)

cheap_high : ceiling_root radicand ≡ 30_323_345
cheap_high = root_high radicand 30_323_344 (omega arith) (omega arith) (omega arith)

a_second_pass : SecondPass
unfolding summed lower_step upper_step least insulation film insulation_bounds film_bounds provided requirement enclosing first_not_insufficient big_endian bytes_of decoded_as neighbours loss_limit loss_check surface_check check_between surface_bound encoded answer_of first_fault respond
a_second_pass =
    record {
      product = refl;
      squares = (refl, refl);
      required = rw (cheap_low, cheap_high);
      at_20 = refl;
      at_30 = refl;
      first = rw (cheap_low, cheap_high);
      limit = refl;
      loss_required = refl;
      check = rw (cheap_low, cheap_high);
      aim = (refl, rw (cheap_low, cheap_high));
      second_required = refl;
      at_40 = refl;
      at_50 = refl;
      found = rw (cheap_low, cheap_high);
      whole_limit = refl;
      loss = refl;
      surface_required = refl;
      bound = refl;
      answer = rw (cheap_low, cheap_high);
    }

the_jacket : WithJacket
unfolding summed lower_step upper_step least insulation film insulation_bounds film_bounds provided jacketed first_not_insufficient big_endian bytes_of decoded_as neighbours loss_limit loss_check surface_check check_between surface_bound encoded answer_of first_fault respond
the_jacket =
    record {
      required_0 = refl;
      required_10 = refl;
      side_0 = refl;
      side_10 = refl;
      judged = (refl, refl);
      found = refl;
      bound = refl;
      answer = refl;
    }

the_cold_line : ColdLine
unfolding summed lower_step upper_step least insulation film insulation_bounds film_bounds provided requirement enclosing first_not_insufficient big_endian bytes_of decoded_as neighbours loss_limit loss_check surface_check check_between surface_bound encoded answer_of first_fault respond
the_cold_line = record { difference = refl; required = rw (low, high); checks = (refl, refl); bound = refl; answer = rw (low, high) }

the_cold_wall : ColdWall
unfolding summed lower_step upper_step least insulation film insulation_bounds film_bounds provided requirement enclosing first_not_insufficient big_endian bytes_of decoded_as neighbours loss_limit loss_check surface_check check_between surface_bound encoded answer_of first_fault respond
the_cold_wall =
    record { temperatures = (refl, refl, refl); differences = (refl, refl); required = refl; at_20 = refl; at_30 = refl; bound = refl; answer = refl }

an_entry : Entry
unfolding summed lower_step upper_step least insulation film insulation_bounds film_bounds provided requirement enclosing first_not_insufficient big_endian bytes_of decoded_as neighbours loss_limit loss_check surface_check check_between surface_bound encoded answer_of first_fault respond same_bytes
an_entry = record { size = refl; offsets = (refl, refl, refl); sizes = (refl, refl); read = refl }

a_larger_entry : LargerEntry
unfolding big_endian own_kind
a_larger_entry = record { offsets = (refl, refl, refl); sizes = (refl, refl, refl) }

pub method : Method
method =
    record {
      the_cylinder = the_cylinder;
      the_same_hotter = the_same_hotter;
      between_millimetres = between_millimetres;
      the_flat_wall = the_flat_wall;
      between_rows = between_rows;
      a_second_pass = a_second_pass;
      with_a_jacket = the_jacket;
      the_cold_line = the_cold_line;
      the_cold_wall = the_cold_wall;
      an_entry = an_entry;
      a_larger_entry = a_larger_entry;
    }
