-- The three demands, as `specs/Demands.antt` states them.
-- Assumes nothing.
use mathlib.Core.Path.{◌≡◌, refl, sym, ap, ◌∙◌}
use mathlib.Core.Bool.{Bool, true, false}
use mathlib.Core.Logic.{◌↔◌}
use mathlib.Core.List.{List, []}
use Prim.Native.Nat.{ℕ, ◌≤◌, ◌<◌}
use native.Mathlib.Omega.{arith}
use Rattle.kinds.specs.declared.Kind.{Kind}
use Rattle.lengths.specs.declared.units.Thickness.{Thickness}
use Rattle.lengths.specs.Units.{millimetres}
use Rattle.lengths.specs.Ladder.{rungs, thickness_at}
use Rattle.refusals.specs.Cases.{numbers}
use Rattle.refusals.specs.Response.{complete, after}
use Rattle.refusals.proofs.Response.{first_or_complete}
use Rattle.big_endian.specs.Bytes.{big_endian}
use Rattle.requirement.specs.Criterion.{Criterion}
use Rattle.verdict.proofs.FirstRung.{Sound, Least, least_up_to, least_anywhere}
use Rattle.verdict.proofs.Judgement.{MeetsOn, MissesOn, meets_stays, sound}
use Rattle.sheet.specs.declared.fields.Sheet.{Sheet}
use Rattle.sheet.specs.Sheet.{decoded_as}
use Rattle.sheet.specs.Search.{criterion_of}
use Rattle.sheet.specs.Passes.{deciding_goal, verdicts, chosen}
use Rattle.sheet.specs.Answer.{answer_as}
use Rattle.sheet.specs.Refusals.{cases_as, response_as}
use Rattle.sheet.proofs.Criteria.{one_criterion, deciding_proper}
use Rattle.book.specs.Book.{new_book, with_entry}
use Rattle.book.specs.Refusals.{making_cases, filing_cases, reading_cases}
use Rattle.demands.specs.Demands.{Demand1, Demand2, HeldTo, Demand3, SurfaceBound, Denominators}
use Rattle.demands.proofs.Sheets.{Answered, answered, answer_thickness, sheet_demand_2}
use Rattle.demands.proofs.Surface.{figure_den, dens, surface_dens, both_within}
use Rattle.demands.proofs.ReadingBack.{reads_back, takes_sheets}

pub demand_1 : Demand1
unfolding numbers
demand_1 =
    record {
      of_sheets = λ kind sheet. first_or_complete (cases_as kind sheet) (answer_as kind sheet);
      of_making = λ l book c. first_or_complete (making_cases l book c) [];
      of_filing = λ l book sheet. first_or_complete (filing_cases l book sheet) (answer_as l.sheets sheet);
      of_reading = λ l book e. first_or_complete (reading_cases l book e) _;
      order_of_sheets = λ kind sheet. refl;
      making_order = λ l book c. refl;
      filing_order = λ l book sheet. refl;
      reading_order = λ l book e. refl;
      filing_refused = λ l book sheet n h. ap (λ r. after r (with_entry l book sheet (answer_as l.sheets sheet)) book) h;
      making_refused = λ l book c n h. ap (λ r. after r (new_book l c) book) h;
    }

pub demand_2 : Demand2
demand_2 =
    record { of_sheets = sheet_demand_2; reads_back = reads_back; takes_sheets = takes_sheets }

pub denominators : Denominators
denominators kind sheet bytes h m hm r =
    let s = decoded_as kind sheet in
    let in_range = (answered kind sheet bytes h).0.admitted in
    let k = thickness_at r in
    let le : k.0 ≤ 300 = omega arith in
    let exact = dens s in_range k le m hm in
    let surfaces = surface_dens s in_range k le m hm in
    (in_range.difference_from, deciding_proper s in_range k, exact.0, exact.1, figure_den s in_range k le, surfaces.0, surfaces.1)

pub surface_bound_lem : SurfaceBound
surface_bound_lem kind sheet bytes h m hm =
    let got = (sheet_demand_2 kind sheet).answered bytes h in
    rw (got.thickness, got.bound) (both_within (decoded_as kind sheet) (answered kind sheet bytes h).0.admitted (thickness_at got.found.rung) (omega arith) m hm)

-- an answered sheet
module _ (kind : Kind) (sheet bytes : List ℕ) (h : response_as kind sheet ≡ complete bytes) where
  abbrev s : Sheet
  s = decoded_as kind sheet

  abbrev criterion : Thickness → Criterion
  criterion = criterion_of s (deciding_goal s)

  known : Answered kind sheet
  known = (answered kind sheet bytes h).0

  thickness_is : big_endian bytes 2 2 ≡ (thickness_at (chosen s)).0
  thickness_is = rw (← (answered kind sheet bytes h).1) (answer_thickness s)

  -- its rungs on a cutting m
  module _ (m : ℕ) (hm : 1 ≤ m) where
    abbrev IsLeast : ℕ → Type 0
    IsLeast = Least (MeetsOn m s.line criterion) (MissesOn m s.line criterion)

    some : (1 ≤ s.line.coefficient) × (1 ≤ s.line.diameter.0)
    some = (omega (arith, known.admitted.line.coefficient_from), omega (arith, known.admitted.line.diameter_from))

    exact : Sound (verdicts s) (MeetsOn m s.line criterion) (MissesOn m s.line criterion)
    exact = sound s.line criterion (deciding_proper s known.admitted) m some.0 some.1 hm

    stays : s.counts_jacket ≡ false → (i j : ℕ) → i ≤ j → MeetsOn m s.line criterion i → MissesOn m s.line criterion j → ⊥
    stays none i j le =
        let one = one_criterion s (deciding_goal s) none in
        meets_stays s.line criterion (deciding_proper s known.admitted) m some.0 some.1 hm i j le (one (thickness_at i) ∙ sym (one (thickness_at j)))

    -- under goal 7 up to the answer; otherwise at every rung, since each has the same criterion
    least : (r : ℕ) → r < rungs → HeldTo s (millimetres (big_endian bytes 2 2)) r → (chosen s ≡ r) ↔ IsLeast r
    least r lt held = go s.counts_jacket refl
      where
        go : (b : Bool) → s.counts_jacket ≡ b → (chosen s ≡ r) ↔ IsLeast r
        go true e = least_up_to (verdicts s) _ _ exact known.enough r (omega (arith, lt, known.found, held e, thickness_is))
        go false e = least_anywhere (verdicts s) _ _ exact known.enough (stays e) r

pub demand_3 : Demand3
demand_3 kind sheet bytes h m hm r lt held =
    let law = least kind sheet bytes h m hm r lt held in
    let is = thickness_is kind sheet bytes h in
    (λ e. law.0 (omega (arith, e, lt, (known kind sheet bytes h).found, is)), λ e. is ∙ ap (λ i. (thickness_at i).0) (law.1 e))
