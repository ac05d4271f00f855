-- What demand 2 says of a sheet.
-- Assumes nothing.
use mathlib.Core.Path.{◌≡◌, refl, ◌∙◌}
use mathlib.Core.Bool.{true, false, or-true}
use mathlib.Core.Logic.{inl, inr}
use mathlib.Core.List.{List, [], ◌∷◌, ◌++◌}
use Prim.Native.Nat.{ℕ, ◌<◌}
use native.Mathlib.Omega.{arith}
use lib.Dec.{eqb}
use borrow.Author.Tests.{eqb-true, eqb-false}
use Rattle.std.proofs.lemmas.Bool.{or_parts, or_cases}
use Rattle.kinds.specs.declared.Kind.{Kind}
use Rattle.lengths.specs.Ladder.{rungs, thickness_at}
use Rattle.temperatures.specs.Temperature.{decoded as signed, encoded as twos_complement}
use Rattle.temperatures.proofs.TwosComplement.{turned_back}
use Rattle.refusals.specs.Cases.{Case, case, NoneHolds}
use Rattle.refusals.specs.Response.{refused, complete}
use Rattle.refusals.proofs.Response.{later, absent, completed, behind, front}
use Rattle.big_endian.proofs.Numerals.{number_bytes}
use Rattle.big_endian.specs.Bytes.{big_endian, bytes_of}
use Rattle.heat_flow.proofs.Differences.{bound_fits}
use Rattle.verdict.specs.declared.Verdict.TheVariants.{Sufficient, Undecided}
use Rattle.verdict.proofs.FirstRung.{sufficient_unless, undecided_if, first_within, misses_before, first_not_insufficient_lem, first_none}
use Rattle.answer.specs.declared.Answer.{Answer}
use Rattle.answer.specs.Answer.{encoded}
use Rattle.sheet.specs.declared.fields.Sheet.{Sheet}
use Rattle.sheet.specs.Sheet.{decoded_as, goal_of}
use Rattle.sheet.specs.Search.{verdicts_by}
use Rattle.sheet.specs.Passes.{goal_in, check_between, too_close, deciding_pass, verdicts, chosen}
use Rattle.sheet.specs.Answer.{surface_bound, answer_of, answer_as}
use Rattle.sheet.specs.Refusals.{field_cases_as, ladder_cases, cases_as, response_as}
use Rattle.sheet.specs.Admitted.{Admitted}
use Rattle.sheet.proofs.Admitted.{admitted}
use Rattle.sheet.proofs.Passes.{after_close}
use Rattle.sheet.proofs.Ladder.{open_or_close, all_insufficient, first_undecided}
use Rattle.demands.specs.Demands.{AnswerTo, Seventeen, Eighteen, SheetDemand2}
use Rattle.demands.specs.Demands.Eighteen.{open_in, check_too_close}
use Rattle.demands.proofs.Passes.{found_first, check_is, checked, reaches, decides, decided, none_fails, open_first, open_fails}

-- none of two lists of cases holds
pub none_parts : (cs ds : List Case) → NoneHolds (cs ++ ds) → NoneHolds cs × NoneHolds ds
unfolding NoneHolds
none_parts [] ds none = (tt, none)
none_parts (c ∷ cs) ds none = let rest = none_parts cs ds none.1 in ((none.0, rest.0), rest.1)

-- what holds of an answered sheet
pub record Answered (kind : Kind) (sheet : List ℕ) : Type 0 where
  pub admitted : Admitted (decoded_as kind sheet)
  pub found : chosen (decoded_as kind sheet) < rungs
  pub enough : verdicts (decoded_as kind sheet) (chosen (decoded_as kind sheet)) ≡ Sufficient
  pub not_close : too_close (check_between (decoded_as kind sheet)) ≡ false

pub answered : (kind : Kind) (sheet bytes : List ℕ) → response_as kind sheet ≡ complete bytes → Answered kind sheet × (answer_as kind sheet ≡ bytes)
unfolding NoneHolds
answered kind sheet bytes h =
    let s = decoded_as kind sheet in
    let got = completed (cases_as kind sheet) (answer_as kind sheet) bytes h in
    let none = none_parts (field_cases_as kind sheet) (ladder_cases s) got.0 in
    let not_all : ¬ (chosen s ≡ rungs) = eqb-false _ _ none.1.0 in
    let lt : chosen s < rungs = omega (arith, first_within (verdicts s)) in
    let decided = or_parts _ _ none.1.1.0 in
    (record { admitted = admitted s none.0.1; found = lt; enough = sufficient_unless _ (first_not_insufficient_lem (verdicts s) lt) decided.0; not_close = decided.1 }, got.1)

-- the numbers in an answer's bytes, of fields that fit theirs
module _ (a : Answer) where
  encoded_thickness : a.thickness.0 < 65_536 → big_endian (encoded a) 2 2 ≡ a.thickness.0
  unfolding big_endian encoded bytes_of
  encoded_thickness lt = number_bytes 2 a.thickness.0 lt

  encoded_bound : a.bound.0 < 65_536 → signed (big_endian (encoded a) 6 2) ≡ a.bound
  unfolding big_endian encoded bytes_of
  encoded_bound lt = rw (number_bytes 2 (twos_complement a.bound) (omega arith), turned_back a.bound.0 lt)

pub answer_thickness : (s : Sheet) → big_endian (encoded (answer_of s (chosen s))) 2 2 ≡ (thickness_at (chosen s)).0
unfolding answer_of
answer_thickness s = encoded_thickness (answer_of s (chosen s)) (omega arith)

-- the answer to an answered sheet, byte by byte
answer_to : (kind : Kind) (sheet : List ℕ) → Answered kind sheet → AnswerTo (decoded_as kind sheet) (answer_as kind sheet)
unfolding decoded_as bytes_of encoded answer_of surface_bound
answer_to kind sheet known =
    let s = decoded_as kind sheet in
    record {
      found = record { rung = chosen s; on_ladder = known.found; sufficient = known.enough; first = misses_before (verdicts s) };
      pass = decides s (check_between s) refl known.not_close;
      size = refl;
      start = refl;
      shape = refl;
      thickness = answer_thickness s;
      loss = refl;
      surface = refl;
      bound = encoded_bound (answer_of s (chosen s)) (bound_fits s.flow s.temperature s.ambient _ (omega (arith, known.admitted.temperature_to)) (omega (arith, known.admitted.ambient_to)));
    }

module _ (kind : Kind) (sheet : List ℕ) where
  abbrev s : Sheet
  s = decoded_as kind sheet

  only_17 : response_as kind sheet ≡ refused 17 → NoneHolds (field_cases_as kind sheet) × Seventeen s
  unfolding absent
  only_17 h =
      let got = behind 17 (field_cases_as kind sheet) (ladder_cases s) (answer_as kind sheet) refl h in
      let all : chosen s ≡ rungs = eqb-true _ _ (front 17 (eqb (chosen s) rungs) (case 18 (open_or_close s) ∷ []) (answer_as kind sheet) refl got.1) in
      (got.0, record { pass = deciding_pass s; reached = reaches s (deciding_pass s) refl; all_miss = λ r lt. misses_before (verdicts s) r (omega arith) })

  when_17 : NoneHolds (field_cases_as kind sheet) × Seventeen s → response_as kind sheet ≡ refused 17
  when_17 h =
      let goal = goal_in s h.1.pass in
      let is = decided s h.1.pass h.1.reached (none_fails s goal h.1.all_miss) in
      later (field_cases_as kind sheet) (ladder_cases s) (answer_as kind sheet) h.0 ∙ all_insufficient s (answer_as kind sheet) (rw is (first_none (verdicts_by s goal) h.1.all_miss))

  only_18 : response_as kind sheet ≡ refused 18 → NoneHolds (field_cases_as kind sheet) × Eighteen s
  unfolding absent NoneHolds
  only_18 h =
      let got = behind 18 (field_cases_as kind sheet) (ladder_cases s) (answer_as kind sheet) refl h in
      let end = behind 18 (case 17 (eqb (chosen s) rungs) ∷ []) (case 18 (open_or_close s) ∷ []) (answer_as kind sheet) refl got.1 in
      let some : ¬ (chosen s ≡ rungs) = eqb-false _ _ end.0.0 in
      let lt : chosen s < rungs = omega (arith, first_within (verdicts s)) in (
        got.0,
        elim (or_cases _ _ (front 18 (open_or_close s) [] (answer_as kind sheet) refl end.1)) [
          | inl u ↦ open_in (deciding_pass s) (reaches s (deciding_pass s) refl) (chosen s, lt, undecided_if _ u, misses_before (verdicts s))
          | inr c ↦ check_too_close (checked s Undecided (after_close (check_between s) c))
        ],
      )

  when_open : Eighteen s → (chosen s < rungs) × (open_or_close s ≡ true)
  when_open (open_in p reached f) =
      let goal = goal_in s p in
      rw (decided s p reached (open_fails s goal f), open_first s goal f) (f.1, rw f.2)
  when_open (check_too_close c) = rw (check_is s Undecided c, found_first s (goal_of s) c.found) (c.found.on_ladder, or-true _)

  when_18 : NoneHolds (field_cases_as kind sheet) × Eighteen s → response_as kind sheet ≡ refused 18
  when_18 h =
      let is = when_open h.1 in
      later (field_cases_as kind sheet) (ladder_cases s) (answer_as kind sheet) h.0 ∙ first_undecided s (answer_as kind sheet) is.0 is.1

pub sheet_demand_2 : (kind : Kind) (sheet : List ℕ) → SheetDemand2 kind sheet
sheet_demand_2 kind sheet =
    record {
      answered = λ bytes h. (let got = answered kind sheet bytes h in rw (← got.1) (answer_to kind sheet got.0));
      seventeen = (only_17 kind sheet, when_17 kind sheet);
      eighteen = (only_18 kind sheet, when_18 kind sheet);
    }
