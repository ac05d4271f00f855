-- The sheets worked by hand, by computation.
-- Assumes nothing.
use mathlib.Core.Path.{◌≡◌, refl}
use mathlib.Core.Bool.{true, false, and-false}
use mathlib.Core.List.{List}
use Prim.Native.Nat.{ℕ}
use native.Mathlib.Omega.{arith}
use lib.Dec.{ltb}
use lib.ListN.{take}
use borrow.Author.Tests.{le-ltb}
use Rattle.refusals.specs.Cases.{NoneHolds}
use Rattle.refusals.specs.Response.{refused, respond}
use Rattle.refusals.proofs.Response.{first_at}
use Rattle.big_endian.specs.Bytes.{big_endian, bytes_of}
use Rattle.quadrature.specs.Figures.{lower_step, upper_step}
use Rattle.quadrature.proofs.Sums.{log_self}
use Rattle.roots.specs.Least.{least}
use Rattle.requirement.specs.Required.{requirement, enclosing}
use Rattle.provision.specs.Provided.{insulation, film, insulation_bounds, film_bounds, provided}
use Rattle.verdict.specs.Verdict.{first_not_insufficient}
use Rattle.answer.specs.Answer.{encoded}
use Rattle.limits.specs.Limits.{neighbours, loss_limit}
use Rattle.sheet.specs.Sheet.{decoded, decoded_as, surface_aim}
use Rattle.sheet.specs.Fields.{first_fault}
use Rattle.sheet.specs.Checks.{loss_check, surface_check}
use Rattle.sheet.specs.Passes.{check_between}
use Rattle.sheet.specs.Answer.{surface_bound, answer_of, answer}
use Rattle.sheet.specs.Refusals.{aim_refused, field_cases, cases, response_to}
use Rattle.worked.specs.Sheets.{Worked}

-- goal 3 with the aim at t
aim_refused_lem : (sheet : List ℕ) → let s = decoded sheet in s.code ≡ 3 → surface_aim s ≡ s.temperature → aim_refused s s.goal ≡ true
unfolding decoded_as
aim_refused_lem sheet goal aim =
    let s = decoded sheet in
    let same : (surface_aim s).0 ≡ s.temperature.0 = λ j. (aim j).0 in
    let below : ltb (surface_aim s).0 s.temperature.0 ≡ false = le-ltb (surface_aim s).0 s.temperature.0 (omega arith) in
    rw (goal, below, and-false)

aim_at_t : (sheet : List ℕ) → let s = decoded sheet in s.code ≡ 3 → surface_aim s ≡ s.temperature → NoneHolds (take 5 (field_cases sheet)) → response_to sheet ≡ refused 16
aim_at_t sheet goal aim earlier = first_at 5 (cases sheet) (answer sheet) earlier (aim_refused_lem sheet goal aim)

pub worked : Worked
unfolding lower_step upper_step least insulation film insulation_bounds film_bounds provided requirement enclosing first_not_insufficient big_endian bytes_of decoded_as neighbours loss_limit loss_check surface_check check_between surface_bound encoded answer_of first_fault respond
worked =
    record {
      p1 = refl;
      p2 = refl;
      p3 = λ D. (log_self lower_step D.0, log_self upper_step D.0);
      p4 = (refl, refl, (refl, refl));
      listed = refl;
      p5 = (refl, (refl, refl));
      p6 = (refl, refl);
      p7 = refl;
      p8 = (refl, refl, refl);
      p9 = (refl, aim_at_t);
      p10 = refl;
      p11 = refl;
      p12 = (refl, refl);
    }
