-- What is promised of cold lines.
-- Assumes nothing.
use mathlib.Core.Path.{◌≡◌, refl, ap, ◌∙◌}
use mathlib.Core.Bool.{Bool, false, ◌&&◌, and-false}
use mathlib.Core.Logic.{⊎_elim}
use mathlib.Core.List.{List}
use Prim.Native.Nat.{ℕ, ◌≤◌, ◌<◌}
use native.Mathlib.Omega.{arith}
use lib.ListN.{length, get_or}
use borrow.Author.Tests.{le-leb}
use Rattle.kinds.specs.declared.Kind.TheVariants.{Standard}
use Rattle.std.specs.Prelude.{None}
use Rattle.fractions.specs.declared.Bounds.{Bounds}
use Rattle.temperatures.specs.declared.Temperature.{Temperature}
use Rattle.temperatures.specs.Temperature.{decoded as signed}
use Rattle.big_endian.specs.Bytes.{big_endian}
use Rattle.heat_flow.specs.declared.HeatFlow.TheVariants.{Inward}
use Rattle.verdict.specs.declared.Verdict.TheVariants.{Sufficient}
use Rattle.answer.specs.Answer.{loss_code, check_code}
use Rattle.limits.specs.Limits.{surface_limit}
use Rattle.limits.proofs.Rows.{none_below}
use Rattle.limits.proofs.SurfaceLimit.{limit_above}
use Rattle.sheet.specs.declared.fields.Sheet.{Sheet}
use Rattle.sheet.specs.Sheet.{uses_economy, decoded, decoded_as, goal_of}
use Rattle.sheet.specs.Search.{requirement_of}
use Rattle.sheet.specs.Passes.{chosen}
use Rattle.sheet.specs.Checks.{loss_check, surface_check}
use Rattle.sheet.specs.Answer.{surface_bound}
use Rattle.sheet.specs.Admitted.{Admitted}
use Rattle.sheet.proofs.Passes.{no_check}
use Rattle.sheet.proofs.Criteria.{same_at_each}
use Rattle.demands.specs.Demands.{AnswerTo}
use Rattle.demands.proofs.Sheets.{answered, sheet_demand_2}
use Rattle.promises.specs.ColdLines.{ColdAnswer, Exchanged, ColdLines}

-- an admitted cold sheet, of which p is provided
module _ (s : Sheet) (cold : s.flow ≡ Inward) (in_range : Admitted s) (p : Bounds) where
  colder : s.temperature.0 < s.ambient.0
  colder = omega (arith, rw cold at in_range.difference_from)

  no_loss_limit : loss_check s p ≡ None
  unfolding loss_check
  no_loss_limit = rw (none_below s.service s.temperature (omega (arith, colder, in_range.ambient_to)))

  within_surface_limit : surface_check s p ≡ Sufficient
  unfolding surface_check
  within_surface_limit = rw (le-leb s.temperature.0 (surface_limit s.ambient).0 (omega (arith, colder, limit_above s.ambient)))

  between : (s.temperature.0 ≤ (surface_bound s p).0) × ((surface_bound s p).0 ≤ s.ambient.0)
  unfolding surface_bound
  between = rw cold (omega arith, omega (arith, colder))

module _ (sheet bytes : List ℕ) (h : ColdAnswer sheet bytes) where
  inward : (decoded sheet).flow ≡ Inward
  unfolding decoded_as
  inward = ⊎_elim (λ four. rw four) (λ five. rw five) h.cold

  in_range : Admitted (decoded sheet)
  in_range = (answered Standard sheet bytes h.answered).0.admitted

  got : AnswerTo (decoded sheet) bytes
  got = (sheet_demand_2 Standard sheet).answered bytes h.answered

  cold_checks : (length bytes ≡ 8) × (get_or bytes 5 0 ≡ 0) × (get_or bytes 4 0 ≡ 3)
  cold_checks = (got.size, got.surface ∙ ap check_code (within_surface_limit (decoded sheet) inward in_range _), got.loss ∙ ap loss_code (no_loss_limit (decoded sheet) inward in_range _))

  cold_bound : let bound = (signed (big_endian bytes 6 2)).0 in ((decoded sheet).temperature.0 ≤ bound) × (bound ≤ (decoded sheet).ambient.0)
  cold_bound = rw (ap (λ (t : Temperature). t.0) got.bound) (between (decoded sheet) inward in_range _)

exchanged : (cold hot : Sheet) → Exchanged cold hot → (requirement_of cold (goal_of cold) ≡ requirement_of hot (goal_of hot)) × (chosen cold ≡ chosen hot)
exchanged cold hot e =
    rw (no_check cold e.one_pass.0, no_check hot e.one_pass.1, same_at_each cold cold.goal (no_jacket cold e.no_jacket.0), same_at_each hot hot.goal (no_jacket hot e.no_jacket.1))
    (rw (e.inward, e.outward, e.economy.0, e.economy.1, e.temperatures.0, e.temperatures.1, e.same_line, e.same_terms) (refl, refl))
  where
    no_jacket : (s : Sheet) → s.counts_jacket ≡ false → (uses_economy s.goal && s.counts_jacket) ≡ false
    no_jacket s none = ap (λ (b : Bool). uses_economy s.goal && b) none ∙ and-false _

pub cold_lines : ColdLines
cold_lines = record { checks = cold_checks; bound_between = cold_bound; as_on_steam = exchanged }
