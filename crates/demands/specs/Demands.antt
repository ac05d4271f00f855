-- The three demands of 00, "What the book must rest on", and that the surface bound holds, for both kinds of sheets and books.
-- Assumes nothing.
use Rattle.std.specs.Prelude.{ℕ, ◌+◌, ◌-◌, ◌≤◌, ◌<◌, ◌≡◌, ◌⊎◌, ◌↔◌, true, Some, List, [], ◌∷◌, ◌++◌, length, get_or}
use Rattle.fractions.specs.Fraction.{Fraction, ◌over◌, plus, ◌≼◌}
use Rattle.kinds.specs.declared.Kind.{Kind}
use Rattle.lengths.specs.declared.units.Diameter.{Diameter}
use Rattle.lengths.specs.declared.units.Thickness.{Thickness}
use Rattle.lengths.specs.Units.{millimetres}
use Rattle.lengths.specs.Ladder.{rungs, thickness_at}
use Rattle.temperatures.specs.declared.Temperature.{Temperature}
use Rattle.temperatures.specs.Temperature.{decoded as signed}
use Rattle.refusals.specs.Cases.{numbers, NoneHolds}
use Rattle.refusals.specs.Response.{refused, complete, FirstOrComplete}
use Rattle.big_endian.specs.Bytes.{big_endian}
use Rattle.quadrature.specs.Cuttings.{lower_sum, upper_sum}
use Rattle.heat_flow.specs.declared.HeatFlow.{HeatFlow}
use Rattle.heat_flow.specs.declared.HeatFlow.TheVariants.{Outward, Inward}
use Rattle.line.specs.Line.{shape_of}
use Rattle.requirement.specs.declared.Goal.{Goal}
use Rattle.requirement.specs.Criterion.{MeetsBy, MissesBy, IsFraction}
use Rattle.provision.specs.Provided.{provided}
use Rattle.provision.specs.Exact.{provided_exactly}
use Rattle.verdict.specs.declared.Verdict.{Verdict}
use Rattle.verdict.specs.declared.Verdict.TheVariants.{Sufficient, Insufficient, Undecided}
use Rattle.answer.specs.declared.Pass.{Pass}
use Rattle.answer.specs.declared.Pass.TheVariants.{First, Second}
use Rattle.answer.specs.Answer.{pass_code, shape_code, check_code, loss_code}
use Rattle.sheet.specs.declared.fields.Sheet.{Sheet}
use Rattle.sheet.specs.Sheet.{decoded_as, difference, goal_of}
use Rattle.sheet.specs.Search.{criterion_of, verdicts_by}
use Rattle.sheet.specs.Checks.{loss_check, surface_check}
use Rattle.sheet.specs.Passes.{goal_in, deciding_pass, deciding_goal}
use Rattle.sheet.specs.Answer.{surface_difference, surface_bound, answer_as}
use Rattle.sheet.specs.Refusals.{field_cases_as, cases_as, response_as}
use Rattle.layout.specs.declared.offsets.Layout.{Layout}
use Rattle.layout.specs.Layout.{layout_of}
use Rattle.layout.specs.OwnKind.{own_kind}
use Rattle.layout.specs.Sizes.{capacity, count}
use Rattle.book.specs.Book.{stored_sheet, stored_answer}
use Rattle.book.specs.Refusals.{making_cases, filing_cases, reading_cases, making, made, filing, filed, reading, filing_either, filed_either, reading_either}

-- "Tests run in this order." (01, "Sent back because of the sheet"); "43, after 16" (02, N6)
abbrev pub sheet_order : List ℕ
sheet_order = 11 ∷ 12 ∷ 13 ∷ 14 ∷ 15 ∷ 16 ∷ 43 ∷ 17 ∷ 18 ∷ []

-- Demand 1: "The answer to every sheet and to every book, sound or damaged, is the number of the first listed refusal, in the listed order,
-- whose stated case holds, and is complete when none holds; a refused filing changes no byte of the book, and a caller has nothing to check
-- beforehand." This says it of the calls that answer, make, file and read, for both kinds of sheets and every layout of a book, that which
-- a book's own bytes tell among them; no call has a `requires`.
pub record Demand1 : Type 0 where
  pub of_sheets : (kind : Kind) (sheet : List ℕ) → FirstOrComplete (cases_as kind sheet) (answer_as kind sheet) (response_as kind sheet)
  pub of_making : (l : Layout) (book : List ℕ) (c : ℕ) → FirstOrComplete (making_cases l book c) [] (making l book c)
  pub of_filing : (l : Layout) (book sheet : List ℕ) → FirstOrComplete (filing_cases l book sheet) (answer_as l.sheets sheet) (filing l book sheet)
  pub of_reading : (l : Layout) (book : List ℕ) (e : ℕ) → FirstOrComplete (reading_cases l book e) (stored_sheet l book e ++ stored_answer l book e) (reading l book e)
  -- the listed orders
  pub order_of_sheets : (kind : Kind) (sheet : List ℕ) → numbers (cases_as kind sheet) ≡ sheet_order
  pub making_order : (l : Layout) (book : List ℕ) (c : ℕ) → numbers (making_cases l book c) ≡ (31 ∷ [])
  pub filing_order : (l : Layout) (book sheet : List ℕ) → numbers (filing_cases l book sheet) ≡ (31 ∷ 32 ∷ 34 ∷ sheet_order)
  pub reading_order : (l : Layout) (book : List ℕ) (e : ℕ) → numbers (reading_cases l book e) ≡ (31 ∷ 32 ∷ 33 ∷ 35 ∷ [])
  -- a refused filing changes no byte, nor does a refused making
  pub filing_refused : (l : Layout) (book sheet : List ℕ) (n : ℕ) → filing l book sheet ≡ refused n → filed l book sheet ≡ book
  pub making_refused : (l : Layout) (book : List ℕ) (c n : ℕ) → making l book c ≡ refused n → made l book c ≡ book

-- all rungs below r miss
abbrev pub InsufficientBelow : (ℕ → Verdict) → ℕ → Type 0
InsufficientBelow v r = (i : ℕ) → i < r → v i ≡ Insufficient

-- a pass that searches by this goal finds a rung: "The first rung that doesn't miss is the thickness if it meets."
pub record Found (s : Sheet) (goal : Goal) : Type 0 where
  pub rung : ℕ
  pub on_ladder : rung < rungs
  pub sufficient : verdicts_by s goal rung ≡ Sufficient
  pub first : InsufficientBelow (verdicts_by s goal) rung

-- under goal 6, the loss check says v of the rung that the first pass finds (02, N5)
pub record Checked (s : Sheet) (v : Verdict) : Type 0 where
  pub respects : s.respects_limit ≡ true
  pub found : Found s (goal_of s)
  pub says : loss_check s (provided s.line (thickness_at found.rung)) ≡ Some v

-- which passes a sheet comes to: every sheet to the first, and to the second "If the loss check says over"
abbrev pub Reaches : Sheet → Pass → Type 0
Reaches s First = Unit {0}
Reaches s Second = Checked s Insufficient

-- which pass decides: the second where it is reached; the first where there is no check, or it says within
abbrev pub Decides : Sheet → Pass → Type 0
Decides s First = (v : Verdict) → Checked s v → v ≡ Sufficient
Decides s Second = Checked s Insufficient

-- Demand 2: "The thickness, the checks and the surface temperature are those that the paper's equations and whole-number figures give":
-- what is read in the eight bytes, the rung being the first that doesn't miss, which meets, in the pass that decides
pub record AnswerTo (s : Sheet) (bytes : List ℕ) : Type 0 where
  pub pass : Decides s (deciding_pass s)
  pub found : Found s (deciding_goal s)
  pub size : length bytes ≡ 8
  pub start : get_or bytes 0 0 ≡ pass_code (deciding_pass s)
  pub shape : get_or bytes 1 0 ≡ shape_code (shape_of s.line)
  pub thickness : big_endian bytes 2 2 ≡ (thickness_at found.rung).0
  pub loss : get_or bytes 4 0 ≡ loss_code (loss_check s (provided s.line (thickness_at found.rung)))
  pub surface : get_or bytes 5 0 ≡ check_code (surface_check s (provided s.line (thickness_at found.rung)))
  pub bound : signed (big_endian bytes 6 2) ≡ surface_bound s (provided s.line (thickness_at found.rung))

-- some rung is open, and every rung below it misses
abbrev pub FirstUndecided : (ℕ → Verdict) → Type 0
FirstUndecided v = (r : ℕ) × (r < rungs) × (v r ≡ Undecided) × InsufficientBelow v r

-- the stated case of 17: "all 31 rungs miss" (01, "Sent back because of the sheet"), in a pass: "The second pass can meet 17 and 18 as the
-- first can." (02, N5)
pub record Seventeen (s : Sheet) : Type 0 where
  pub pass : Pass
  pub reached : Reaches s pass
  pub all_miss : InsufficientBelow (verdicts_by s (goal_in s pass)) rungs

-- the stated case of 18
pub data Eighteen (s : Sheet) : Type 0 where
  -- "the first rung that doesn't miss is open" (01), in a pass
  open_in : (pass : Pass) → Reaches s pass → FirstUndecided (verdicts_by s (goal_in s pass)) → Eighteen s
  -- "If the check says too close, the sheet gets 18." (02, N5)
  check_too_close : Checked s Undecided → Eighteen s

-- "refusals 17 and 18 come in their stated cases only"
pub record SheetDemand2 (kind : Kind) (sheet : List ℕ) : Type 0 where
  pub answered : (bytes : List ℕ) → response_as kind sheet ≡ complete bytes → AnswerTo (decoded_as kind sheet) bytes
  pub seventeen : (response_as kind sheet ≡ refused 17) ↔ (NoneHolds (field_cases_as kind sheet) × Seventeen (decoded_as kind sheet))
  pub eighteen : (response_as kind sheet ≡ refused 18) ↔ (NoneHolds (field_cases_as kind sheet) × Eighteen (decoded_as kind sheet))

-- the book after the filing of each sheet of a list, refused ones among them
unfoldable pub filed_all : List ℕ → List (List ℕ) → List ℕ
filed_all book [] = book
filed_all book (sheet ∷ sheets) = filed_all (filed_either book sheet) sheets

-- that of such filings in a new book of a kind, made over lent bytes with capacity c
abbrev pub filed_in_new : Kind → List ℕ → ℕ → List (List ℕ) → List ℕ
filed_in_new kind lent c sheets = filed_all (made (layout_of kind) lent c) sheets

-- "an entry filed in a new book reads back equal, however many are filed after it": for both kinds and every capacity, whatever was filed
-- before, by the reader of both kinds and by that of this kind alone
abbrev pub ReadsBack : Kind → Type 0
ReadsBack kind =
    let l = layout_of kind in
    (lent : List ℕ) (c : ℕ) → making l lent c ≡ complete [] →
    (before : List (List ℕ)) (sheet bytes : List ℕ) →
    let book = filed_in_new kind lent c before in
    filing_either book sheet ≡ complete bytes →
    (later : List (List ℕ)) →
    let kept = filed_all (filed_either book sheet) later in
    let e = count l book in
    (reading_either kept e ≡ complete (sheet ++ bytes)) × (reading l kept e ≡ complete (sheet ++ bytes)) ×
    (stored_sheet l kept e ≡ sheet) × (stored_answer l kept e ≡ bytes)

-- and such a book, of capacity c, takes c sheets: it starts empty, and keeps its kind and its capacity; while there is room the sheet alone
-- decides, and each sheet that is filed counts one
pub record TakesSheets (kind : Kind) (lent : List ℕ) (c : ℕ) : Type 0 where
  pub starts_empty : count (layout_of kind) (made (layout_of kind) lent c) ≡ 0
  pub keeps_kind : (before : List (List ℕ)) → own_kind (filed_in_new kind lent c before) ≡ kind
  pub keeps_capacity : (before : List (List ℕ)) → capacity (layout_of kind) (filed_in_new kind lent c before) ≡ c
  pub sheet_decides :
      (before : List (List ℕ)) (sheet : List ℕ) →
      let book = filed_in_new kind lent c before in
      count (layout_of kind) book < c → filing_either book sheet ≡ response_as kind sheet
  pub counts_one :
      (before : List (List ℕ)) (sheet bytes : List ℕ) →
      let book = filed_in_new kind lent c before in
      filing_either book sheet ≡ complete bytes → count (layout_of kind) (filed_either book sheet) ≡ count (layout_of kind) book + 1

-- Demand 2, of sheets and of books
pub record Demand2 : Type 0 where
  pub of_sheets : (kind : Kind) (sheet : List ℕ) → SheetDemand2 kind sheet
  pub reads_back : (kind : Kind) → ReadsBack kind
  pub takes_sheets : (kind : Kind) (lent : List ℕ) (c : ℕ) → making (layout_of kind) lent c ≡ complete [] → TakesSheets kind lent c

-- the rungs that demand 3 speaks of, k being the thickness given: "every rung of the ladder" (00); for goal 7 "demand 3 runs over the rungs
-- from 0 up to the answer, that one included, and no others" (02, N6)
abbrev pub HeldTo : Sheet → Thickness → ℕ → Type 0
HeldTo s k r = s.counts_jacket ≡ true → (thickness_at r).0 ≤ k.0

-- Demand 3: "For every answered sheet, every cutting of the logarithm's area that the paper allows, however fine, and every rung of the
-- ladder: that rung equals the thickness we give exactly when it meets the exact equation on that cutting's under-sum and the rung below
-- it, if there is one, misses it on that cutting's over-sum." "the thickness is bytes 2–3 of the answer, and both rungs are judged by the
-- sheet's own goal" (01, "Ladder and figures"); after a second pass "the exact equation of demand 3 is the loss one of the second pass"
-- (02, N5). On a flat wall `provided_exactly` reads no sum: "there the same holds with the exact equation alone judging both rungs".
abbrev pub Demand3 : Type 0
Demand3 =
    (kind : Kind) (sheet bytes : List ℕ) → response_as kind sheet ≡ complete bytes → (m : ℕ) → 1 ≤ m → (r : ℕ) → r < rungs →
    let s = decoded_as kind sheet in
    let criterion = criterion_of s (deciding_goal s) in
    HeldTo s (millimetres (big_endian bytes 2 2)) r →
    (big_endian bytes 2 2 ≡ (thickness_at r).0) ↔
    (MeetsBy (criterion (thickness_at r)) (provided_exactly (lower_sum m) s.line (thickness_at r)) ×
    ((r ≡ 0) ⊎ MissesBy (criterion (thickness_at (r - 1))) (provided_exactly (upper_sum m) s.line (thickness_at (r - 1)))))

-- how far the surface lies beyond the air by the exact equation, with a thickness k: exact have in place of under-have. This is what (5)
-- and (6) of 000 give, and on a cold line (31) and (36).
abbrev pub surface_difference_exactly : (Diameter → Diameter → Fraction) → Sheet → Thickness → Fraction
surface_difference_exactly sum s k = surface_difference s.line (difference s) (provided_exactly sum s.line k)

-- A surface that lies d beyond the air, of temperature ta, does not lie beyond a bound: outward ta + d is not above it, and inward ta − d
-- is not below it, which is said as bound + d ≤ ta.
abbrev pub NotBeyond : HeatFlow → Temperature → Fraction → Temperature → Type 0
NotBeyond Outward ta d bound = plus (ta.0 over 1) d ≼ bound.0 over 1
NotBeyond Inward ta d bound = plus (bound.0 over 1) d ≼ ta.0 over 1

-- The surface bound is what its name says: with the thickness given, the surface by the exact equation, on every cutting and by either sum,
-- does not lie beyond it.
abbrev pub SurfaceBound : Type 0
SurfaceBound =
    (kind : Kind) (sheet bytes : List ℕ) → response_as kind sheet ≡ complete bytes → (m : ℕ) → 1 ≤ m →
    let s = decoded_as kind sheet in
    let k = millimetres (big_endian bytes 2 2) in
    let bound = signed (big_endian bytes 6 2) in
    NotBeyond s.flow s.ambient (surface_difference_exactly (lower_sum m) s k) bound × NotBeyond s.flow s.ambient (surface_difference_exactly (upper_sum m) s k) bound

-- What demand 3 and the surface bound compare are fractions: no denominator is 0, neither of what have or its square is compared with, nor
-- of have by either sum, nor of how far the surface lies beyond the air, for under-have or for exact have. And Δ is above 0.
abbrev pub Denominators : Type 0
Denominators =
    (kind : Kind) (sheet bytes : List ℕ) → response_as kind sheet ≡ complete bytes → (m : ℕ) → 1 ≤ m → (r : ℕ) →
    let s = decoded_as kind sheet in
    let k = thickness_at r in
    (0 < difference s) × IsFraction (criterion_of s (deciding_goal s) k) ×
    (0 < (provided_exactly (lower_sum m) s.line k).den) × (0 < (provided_exactly (upper_sum m) s.line k).den) ×
    (0 < (surface_difference s.line (difference s) ((provided s.line k).lower over 1)).den) ×
    (0 < (surface_difference_exactly (lower_sum m) s k).den) × (0 < (surface_difference_exactly (upper_sum m) s k).den)
