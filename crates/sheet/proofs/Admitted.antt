-- What holds of a sheet for which the cases 12 to 16 and 43 fail: its service, its line, its temperatures and its goal are in range.
-- Assumes nothing.
use mathlib.Core.Path.{◌≡◌, refl}
use mathlib.Core.Bool.{false, ◌&&◌, and-eq-true_iff}
use mathlib.Core.List.{◌++◌}
use Prim.Native.Nat.{◌+◌, ◌-◌, ◌≤◌}
use native.Mathlib.Nat.{le_trans, pos_of_ne-zero}
use native.Mathlib.Omega.{arith}
use borrow.Author.Tests.{eqb-false, ltb-false, not-false}
use Rattle.std.specs.Prelude.{is_some}
use Rattle.temperatures.specs.declared.Temperature.{Temperature}
use Rattle.temperatures.specs.Temperature.{zero_degrees}
use Rattle.heat_flow.specs.declared.HeatFlow.{HeatFlow}
use Rattle.heat_flow.specs.declared.HeatFlow.TheVariants.{Outward, Inward}
use Rattle.heat_flow.specs.HeatFlow.{least_temperature, beyond, temperature_difference}
use Rattle.heat_flow.proofs.Differences.{differs, no_more}
use Rattle.refusals.specs.Cases.{NoneHolds}
use Rattle.requirement.specs.Ranges.{GoalInRange}
use Rattle.sheet.specs.declared.fields.GoalCode.{GoalCode}
use Rattle.sheet.specs.declared.fields.GoalCode.TheVariants.{ForEconomy, ForLoss, ForSurface}
use Rattle.sheet.specs.declared.fields.Sheet.{Sheet}
use Rattle.sheet.specs.Sheet.{uses_economy, uses_aim, difference, surface_aim, goal_with}
use Rattle.sheet.specs.Fields.{economy_fields, aim_fields, first_fault}
use Rattle.sheet.specs.Refusals.{aim_refused, value_cases}
use Rattle.sheet.specs.Admitted.{Admitted}
use Rattle.sheet.proofs.FirstFault.{inside, behind}

-- each goal's own range, from the fields that only it uses, and from case 16
goal_in_range :
    (s : Sheet) (g : GoalCode) → is_some (first_fault 13 (economy_fields (uses_economy g) s ++ aim_fields (uses_aim s.counts_jacket g) s)) ≡ false → difference s ≤ 7_000 → aim_refused s g ≡ false → GoalInRange (goal_with s g)
goal_in_range s ForEconomy fields near aim =
    let heat = inside 13 _ _ fields refl in
    let hours = inside 13 _ _ heat.rest refl in
    let insulation = inside 13 _ _ hours.rest refl in
    let share = inside 13 _ _ insulation.rest refl in
    record {
      heat_to = heat.most;
      hours_to = hours.most;
      insulation_from = insulation.least;
      insulation_to = insulation.most;
      share_from = share.least;
      share_to = share.most;
    }
goal_in_range s ForLoss fields near aim = pos_of_ne-zero (eqb-false _ _ aim)
goal_in_range s ForSurface fields near aim =
    let from_air = beyond s.flow (surface_aim s) s.ambient in
    let to_pipe = beyond s.flow s.temperature (surface_aim s) in
    let both = (and-eq-true_iff from_air to_pipe).0 (not-false (from_air && to_pipe) aim) in
    (differs s.flow (surface_aim s) s.ambient both.0, le_trans (no_more s.flow s.temperature (surface_aim s) s.ambient both.1) near)

-- the largest difference of a hot line, and that of a cold one
near_enough :
    (f : HeatFlow) (t ta : Temperature) → least_temperature f ≤ t.0 → t.0 ≤ zero_degrees + 6_500 → zero_degrees - 500 ≤ ta.0 → ta.0 ≤ zero_degrees + 500 →
    temperature_difference f t ta ≤ 7_000
near_enough Outward t ta from to air-from air-to = omega arith
near_enough Inward t ta from to air-from air-to = omega arith

pub admitted : (s : Sheet) → NoneHolds (value_cases s) → Admitted s
unfolding NoneHolds
admitted s f =
    let goal = inside 12 _ _ f.0 refl in
    let service = inside 12 _ _ goal.rest refl in
    let no_code = behind 13 _ _ (behind 13 _ _ f.1.0 (λ e. omega arith)) (λ e. omega arith) in
    let diameter = inside 13 _ _ no_code refl in
    let temperature = inside 13 _ _ diameter.rest refl in
    let ambient = inside 13 _ _ temperature.rest refl in
    let conductivity = inside 13 _ _ ambient.rest refl in
    let coefficient = inside 13 _ _ conductivity.rest refl in
    let near : difference s ≤ 7_000 = near_enough s.flow s.temperature s.ambient temperature.least temperature.most ambient.least ambient.most in
    record {
      service_from = service.least;
      service_to = service.most;
      line = record { diameter_from = diameter.least; conductivity_to = conductivity.most; coefficient_from = coefficient.least; coefficient_to = coefficient.most };
      conductivity_from = conductivity.least;
      temperature_to = temperature.most;
      ambient_from = ambient.least;
      ambient_to = ambient.most;
      difference_from = differs s.flow s.temperature s.ambient (not-false _ f.1.1.1.0);
      difference_to = near;
      goal = goal_in_range s s.goal coefficient.rest near f.1.1.1.1.0;
      cylinder = λ counts. ltb-false 10_000 s.line.diameter.0 (rw counts at f.1.1.1.1.1.0);
    }
