-- The two checks of a rung. 01, "The answer: 8 bytes", and 02, N2 and N4.
-- Assumes nothing.
use Rattle.std.specs.Prelude.{◌-◌, cond, leb, eqb, Option, Some, None}
use Rattle.fractions.specs.declared.Bounds.{Bounds}
use Rattle.requirement.specs.declared.Goal.TheVariants.{Loss, Surface}
use Rattle.verdict.specs.declared.Verdict.{Verdict}
use Rattle.verdict.specs.declared.Verdict.TheVariants.{Sufficient}
use Rattle.verdict.specs.Verdict.{judged}
use Rattle.limits.specs.Limits.{loss_limit, surface_limit}
use Rattle.sheet.specs.declared.fields.Sheet.{Sheet}
use Rattle.sheet.specs.Search.{required_of}

-- of a rung that provides p: "The loss check reads meets, misses or open of the chosen rung against the loss need at the limit below"; it
-- "follows the service byte" (02, N2). There is none where no limit is printed.
unfoldable pub loss_check : Sheet → Bounds → Option Verdict
loss_check s p =
    let limit = loss_limit s.service s.temperature in
    cond (eqb limit 0) None (Some (judged p (required_of s (Loss limit))))

-- "the surface check does so with the limit in place of aim. A t at or below the surface limit is within." "Both checks of a cold sheet
-- read 0 for surface and 3 for loss" (02, N4) by these same rules, as `ColdLines` promises.
unfoldable pub surface_check : Sheet → Bounds → Verdict
surface_check s p =
    let limit = surface_limit s.ambient in
    cond (leb s.temperature.0 limit.0) Sufficient (judged p (required_of s (Surface (limit.0 - s.ambient.0))))
