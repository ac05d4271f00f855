-- The examples, by computation; the economy root by its square.
-- Assumes nothing.
use mathlib.Core.Path.{◌≡◌, refl, sym}
use mathlib.Core.List.{List}
use Prim.Native.Nat.{ℕ, ◌+◌, ◌*◌, ◌<◌}
use native.Mathlib.Nat.{lt_of_le_of_lt}
use native.Mathlib.Omega.{arith}
use Rattle.std.specs.Prelude.{Option, Some, None}
use Rattle.fractions.specs.Fraction.{Fraction, ◌over◌}
use Rattle.refusals.specs.Response.{respond}
use Rattle.big_endian.specs.Bytes.{big_endian, bytes_of}
use Rattle.quadrature.specs.Sums.{summed}
use Rattle.quadrature.specs.Figures.{lower_step, upper_step}
use Rattle.roots.specs.Least.{least}
use Rattle.roots.specs.Root.{floor_root, ceiling_root}
use Rattle.roots.proofs.Squares.{square_le}
use Rattle.roots.proofs.Roots.{floor_root_is, ceiling_root_is}
use Rattle.requirement.specs.Required.{requirement, enclosing}
use Rattle.provision.specs.Provided.{insulation, film, insulation_bounds, film_bounds, provided}
use Rattle.verdict.specs.Verdict.{first_not_insufficient}
use Rattle.verdict.specs.declared.Verdict.{Verdict}
use Rattle.verdict.specs.declared.Verdict.TheVariants.{Sufficient, Insufficient, Undecided}
use Rattle.jacket.specs.Jacket.{jacketed}
use Rattle.answer.specs.Answer.{encoded}
use Rattle.limits.specs.Limits.{neighbours, loss_limit}
use Rattle.sheet.specs.Sheet.{decoded, decoded_as}
use Rattle.sheet.specs.Fields.{first_fault}
use Rattle.sheet.specs.Checks.{loss_check, surface_check}
use Rattle.sheet.specs.Passes.{check_between}
use Rattle.sheet.specs.Answer.{surface_bound, answer_of}
use Rattle.worked.specs.Examples.{economy_of, bare_wall, hot_wall, tube, Examples, ColdExamples, LimitedExamples, JacketExamples}

-- a root between two whole numbers, by their squares
module _ (r : Fraction) (x : ℕ) (pos : 0 < r.den) (above : x * x * r.den < r.num) (below : r.num < (x + 1) * (x + 1) * r.den) where
  pub root_low : floor_root r ≡ x
  root_low = sym (floor_root_is r pos x (omega arith) below)

  pub root_high : ceiling_root r ≡ x + 1
  root_high = sym (ceiling_root_is r pos (x + 1) (omega arith) (λ y lt. lt_of_le_of_lt (square_le {x = y} {y = x} r.den (omega arith)) above))

-- the economy requirement of both sheets: 14,402,025,000 × 7,500 × 333 × 2,880 × 137 / (1,600 × 2,296) under the root
abbrev pub radicand : Fraction
radicand = 14_191_951_302_540_000_000_000 over 3_673_600

pub low : floor_root radicand ≡ 62_154_864
low = root_low radicand 62_154_864 (omega arith) (omega arith) (omega arith)

pub high : ceiling_root radicand ≡ 62_154_865
high = root_high radicand 62_154_864 (omega arith) (omega arith) (omega arith)

-- those of the bare wall, of the wall that no rung is enough for, and of the tube
abbrev of_wall : Fraction
of_wall = (3_598_609_000 * (1_000 * 2_880 * 1_160)) over 655_350_000

abbrev of_hot_wall : Fraction
of_hot_wall = (3_598_609_000 * (2_000 * 2_880 * 1_671)) over 655_350_000

abbrev of_tube : Fraction
of_tube = (14_402_025_000 * (240 * 438 * 2_300 * 376)) over (51_664 * 8_352)

pub examples : Examples
unfolding summed lower_step upper_step least insulation film insulation_bounds film_bounds provided requirement enclosing first_not_insufficient big_endian bytes_of decoded_as neighbours loss_limit loss_check surface_check check_between surface_bound encoded answer_of first_fault respond
examples =
    record {
      economy_270 = (rw (low, high), rw (low, high));
      economy_320 = (rw (low, high), rw (low, high));
      loss = refl;
      surface = refl;
      bare = refl;
      loss_close = refl;
      surface_close = refl;
      seasonal_row = refl;
      seasonal_interpolated = refl;
      goal_8 = refl;
      service_5 = refl;
    }

pub cold_examples : ColdExamples
unfolding summed lower_step upper_step least insulation film insulation_bounds film_bounds provided requirement enclosing first_not_insufficient big_endian bytes_of decoded_as neighbours loss_limit loss_check surface_check check_between surface_bound encoded answer_of first_fault respond
cold_examples =
    record {
      economy_320 = rw (low, high);
      across_zero = refl;
      next_to_zero = refl;
      nitrogen = refl;
      colder = refl;
      hot_50_1 = refl;
      cold_50_1 = refl;
      aim_of_goal_5 = refl;
      prices_of_goal_4 = refl;
      at_air = refl;
      above_air = refl;
      aim_at_air = refl;
      aim_at_pipe = refl;
      beyond_the_ladder = refl;
      open_rung = refl;
    }

-- the loss checks between the passes
abbrev Check : List ℕ → Option Verdict → Type 0
Check sheet c = check_between (decoded sheet) ≡ c

wall_low : floor_root of_wall ≡ 135_442
wall_low = root_low of_wall 135_442 (omega arith) (omega arith) (omega arith)

wall_high : ceiling_root of_wall ≡ 135_443
wall_high = root_high of_wall 135_442 (omega arith) (omega arith) (omega arith)

walls_within : Check (bare_wall 1 1_500 340 100) (Some Sufficient) × Check (bare_wall 2 1_500 340 174) (Some Sufficient)
unfolding summed lower_step upper_step least insulation film insulation_bounds film_bounds provided requirement enclosing first_not_insufficient big_endian bytes_of decoded_as neighbours loss_limit loss_check check_between
walls_within = (rw (wall_low, wall_high), rw (wall_low, wall_high))

wall_close : Check (bare_wall 2 1_500 340 175) (Some Undecided)
unfolding summed lower_step upper_step least insulation film insulation_bounds film_bounds provided requirement enclosing first_not_insufficient big_endian bytes_of decoded_as neighbours loss_limit loss_check check_between
wall_close = rw (wall_low, wall_high)

walls_over : Check (bare_wall 1 1_500 340 899) (Some Insufficient) × Check (bare_wall 1 1_500 340 900) (Some Insufficient) × Check (bare_wall 1 1_500 340 901) (Some Insufficient) × Check (bare_wall 3 1_300 140 485) (Some Insufficient)
unfolding summed lower_step upper_step least insulation film insulation_bounds film_bounds provided requirement enclosing first_not_insufficient big_endian bytes_of decoded_as neighbours loss_limit loss_check check_between
walls_over = (rw (wall_low, wall_high), rw (wall_low, wall_high), rw (wall_low, wall_high), rw (wall_low, wall_high))

hot_wall_over : Check hot_wall (Some Insufficient)
unfolding summed lower_step upper_step least insulation film insulation_bounds film_bounds provided requirement enclosing first_not_insufficient big_endian bytes_of decoded_as neighbours loss_limit loss_check check_between
hot_wall_over = rw (root_low of_hot_wall 229_895 (omega arith) (omega arith) (omega arith), root_high of_hot_wall 229_895 (omega arith) (omega arith) (omega arith))

tube_over : Check tube (Some Insufficient)
unfolding summed lower_step upper_step least insulation film insulation_bounds film_bounds provided requirement enclosing first_not_insufficient big_endian bytes_of decoded_as neighbours loss_limit loss_check check_between
tube_over = rw (root_low of_tube 1_741_899 (omega arith) (omega arith) (omega arith), root_high of_tube 1_741_899 (omega arith) (omega arith) (omega arith))

none_there : Check (economy_of 6 270 207 70 0) None
unfolding summed lower_step upper_step least insulation film insulation_bounds film_bounds provided requirement enclosing first_not_insufficient big_endian bytes_of decoded_as neighbours loss_limit loss_check check_between
none_there = rw (low, high)

pub limited_examples : LimitedExamples
unfolding summed lower_step upper_step least insulation film insulation_bounds film_bounds provided requirement enclosing first_not_insufficient big_endian bytes_of decoded_as neighbours loss_limit loss_check surface_check surface_bound encoded answer_of first_fault respond
limited_examples =
    record {
      within = (rw (walls_within.0, wall_low, wall_high), rw (walls_within.1, wall_low, wall_high));
      none_printed = rw (none_there, low, high);
      close = rw (wall_close, wall_low, wall_high);
      over = rw walls_over.0;
      second_open = rw walls_over.1;
      over_next = rw walls_over.2;
      rounded_down = rw walls_over.3;
      second_beyond = rw hot_wall_over;
      of_tube = rw tube_over;
      aim_of_goal_6 = refl;
    }

pub jacket_examples : JacketExamples
unfolding summed lower_step upper_step least insulation film insulation_bounds film_bounds provided requirement enclosing jacketed first_not_insufficient big_endian bytes_of decoded_as neighbours loss_limit loss_check surface_check check_between surface_bound encoded answer_of first_fault respond
jacket_examples =
    record {
      priced = refl;
      free = refl;
      dearest = refl;
      widest = refl;
      wall = refl;
      wall_at_air = refl;
      not_positive = (refl, refl);
      above_it = refl;
      open_rung = (refl, refl, refl);
      first_found = refl;
      missing_again = (refl, refl, refl);
    }
