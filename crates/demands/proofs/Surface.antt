-- The surface by the exact equation does not lie beyond the surface bound.
-- Assumes nothing.
use mathlib.Core.Path.{ap}
use Prim.Native.Nat.{ℕ, ◌*◌, ◌≤◌, ◌<◌, min}
use native.Mathlib.Nat.{le_refl, mul-pos, mul-le-mul, mul-le-mul_right}
use native.Mathlib.Omega.{arith, min_cases}
use Rattle.fractions.specs.Fraction.{Fraction, ◌over◌, ◌≼◌}
use Rattle.fractions.specs.Rounding.{ceiling}
use Rattle.fractions.proofs.Order.{≼_trans}
use Rattle.fractions.proofs.Rounding.{ceiling_above}
use Rattle.lengths.specs.declared.units.Thickness.{Thickness}
use Rattle.temperatures.specs.declared.Temperature.{Temperature}
use Rattle.heat_flow.specs.declared.HeatFlow.{HeatFlow}
use Rattle.heat_flow.specs.declared.HeatFlow.TheVariants.{Outward, Inward}
use Rattle.heat_flow.proofs.Differences.{LiesBeyondBy, bound_beyond}
use Rattle.quadrature.specs.Cuttings.{lower_sum, upper_sum}
use Rattle.line.specs.declared.Line.{Line}
use Rattle.provision.specs.Provided.{film, provided}
use Rattle.provision.specs.Exact.{provided_exactly}
use Rattle.provision.proofs.Enclosure.{lower_provided_den, upper_provided_den, film_within, provided_below, provided_grows}
use Rattle.provision.proofs.Sizes.{provided_size}
use Rattle.sheet.specs.declared.fields.Sheet.{Sheet}
use Rattle.sheet.specs.Sheet.{difference}
use Rattle.sheet.specs.Answer.{surface_difference, surface_bound}
use Rattle.sheet.specs.Admitted.{Admitted}
use Rattle.demands.specs.Demands.{NotBeyond}

-- not above the smaller of two whole numbers
not_above_min : (d : Fraction) (x y : ℕ) → d ≼ x over 1 → d ≼ y over 1 → d ≼ min x y over 1
not_above_min d x y hx hy = min_cases x y (d ≼ min x y over 1) (λ le is. rw is hx) (λ le is. rw is hy)

-- a surface that is no farther from the air than the bound
not_beyond : (f : HeatFlow) (ta : Temperature) (x : ℕ) (b : Temperature) (d : Fraction) → LiesBeyondBy f ta x b → d ≼ x over 1 → NotBeyond f ta d b
not_beyond Outward ta x b d is le = omega (arith, le, ap (λ (y : ℕ). y * d.den) is)
not_beyond Inward ta x b d is le = omega (arith, le, ap (λ (y : ℕ). y * d.den) is)

-- an admitted sheet, with a thickness k
module _ (s : Sheet) (in_range : Admitted s) (k : Thickness) (le : k.0 ≤ 300) where
  abbrev l : Line
  l = s.line

  abbrev lower : ℕ
  lower = (provided l k).lower

  some : 1 ≤ lower
  some = (provided_size l k in_range.line in_range.conductivity_from le).0

  abbrev surface : Fraction → Fraction
  surface = surface_difference l (difference s)

  pub figure_den : 0 < (surface (lower over 1)).den
  unfolding film
  figure_den = mul-pos (omega (arith, in_range.line.coefficient_from)) some

  -- where p is provided, a fraction no less than the lower figure: the surface is no farther from the air than by the figure
  module _ (p : Fraction) (pos : 0 < p.den) (from_figure : lower over 1 ≼ p) where
    surface_den : 0 < (surface p).den
    unfolding film
    surface_den = mul-pos (omega (arith, in_range.line.coefficient_from)) (omega (arith, mul-le-mul some pos))

    to_figure : surface p ≼ ceiling (surface (lower over 1)) over 1
    to_figure =
        let figure = surface (lower over 1) in
        ≼_trans (surface p) figure (ceiling figure over 1) figure_den (omega (arith, mul-le-mul_right ((film l).num * difference s * (film l).den) from_figure))
        (omega (arith, ceiling_above figure figure_den))

    -- nor is it farther than the pipe, p being no less than the film
    surface_within : film l ≼ p → NotBeyond s.flow s.ambient (surface p) (surface_bound s (provided l k))
    unfolding surface_bound
    surface_within from_film =
        let q = ceiling (surface (lower over 1)) in
        not_beyond s.flow s.ambient (min (difference s) q) (surface_bound s (provided l k)) (surface p)
        (bound_beyond s.flow s.temperature s.ambient q in_range.difference_from)
        (not_above_min (surface p) (difference s) q (omega (arith, mul-le-mul_right (difference s) from_film)) to_figure)

  -- what is provided exactly, by either sum of a cutting m
  module _ (m : ℕ) (hm : 1 ≤ m) where
    abbrev under : Fraction
    under = provided_exactly (lower_sum m) l k

    abbrev over_sum : Fraction
    over_sum = provided_exactly (upper_sum m) l k

    pub dens : (0 < under.den) × (0 < over_sum.den)
    dens = (lower_provided_den l m (omega arith) (omega arith) hm k, upper_provided_den l m (omega arith) (omega arith) hm k)

    under_from : lower over 1 ≼ under
    under_from = provided_below l m (omega arith) (omega arith) hm k

    over_from : lower over 1 ≼ over_sum
    over_from = ≼_trans _ _ _ dens.0 under_from (provided_grows l m (omega arith) (omega arith) hm {j = k} {k = k} (le_refl _))

    pub surface_dens : (0 < (surface under).den) × (0 < (surface over_sum).den)
    surface_dens = (surface_den under dens.0 under_from, surface_den over_sum dens.1 over_from)

    pub both_within :
        let bound = surface_bound s (provided l k) in
        NotBeyond s.flow s.ambient (surface under) bound × NotBeyond s.flow s.ambient (surface over_sum) bound
    both_within =
        (surface_within under dens.0 under_from (film_within (lower_sum m) l k), surface_within over_sum dens.1 over_from (film_within (upper_sum m) l k))
