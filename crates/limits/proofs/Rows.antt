-- The table of limits: the rows on either side of a temperature, and what the limit is there.
-- Assumes nothing.
use mathlib.Core.Path.{◌≡◌, refl}
use mathlib.Core.Bool.{Bool, true, false, cond, ◌||◌, or-true}
use mathlib.Core.List.{List, [], ◌∷◌}
use mathlib.Core.Logic.{inl, inr}
use mathlib.Core.Option.{Option, none, some, none-ne-some}
use Prim.Native.Nat.{ℕ, zero, suc, min, ◌+◌, ◌-◌, ◌*◌, ◌/◌, ◌≤◌, ◌<◌}
use native.Mathlib.Nat.{not-suc-le-zero, le_of_suc-le-suc, eq-or-lt_of_le}
use native.Mathlib.Omega.{arith}
use lib.Dec.{leb, eqb}
use lib.ListN.{length, get_or, get_elem?}
use borrow.Author.Tests.{le-leb, lt-leb, eq-eqb, ne_eqb}
use borrow.Enum.Match.{each_below}
use Rattle.temperatures.specs.declared.Temperature.{Temperature}
use Rattle.temperatures.specs.Temperature.{zero_degrees, tenths_celsius}
use Rattle.limits.specs.Limits.{Row, table, row_at, limit_of, neighbours, interpolated, loss_limit}

-- row n, and one with no limit after the last
abbrev pub blank : Row
blank = record { temperature = tenths_celsius 0; year_round = 0; seasonal = 0 }

abbrev pub nth : ℕ → Row
nth n = get_or table n blank

-- The rows stand 50 °C apart.
pub nth_at : (n : ℕ) → n < 13 → (nth n).temperature.0 ≡ zero_degrees + 500 * suc n
nth_at = each_below 13 (λ n. (nth n).temperature.0 ≡ zero_degrees + 500 * suc n) (omega arith)

-- a list's element by its index, present or not
module _ {A : Type 0} (d : A) where
  present : (l : List A) (i : ℕ) → i < length l → get_elem? l i ≡ some (get_or l i d)
  present [] i lt = absurd (not-suc-le-zero lt)
  present (a ∷ l) zero lt = refl
  present (a ∷ l) (suc i) lt = present l i (le_of_suc-le-suc lt)

  indexed : (l : List A) (i : ℕ) {a : A} → get_elem? l i ≡ some a → (i < length l) × (get_or l i d ≡ a)
  indexed [] i {a} e = absurd (none-ne-some a e)
  indexed (b ∷ l) zero e = (omega arith, cc)
  indexed (b ∷ l) (suc i) e = let rest = indexed l i e in (omega arith, rest.1)

pub row_present : (n : ℕ) → n < 13 → row_at n ≡ some (nth n)
row_present = present blank table

pub row_indexed : (n : ℕ) {r : Row} → row_at n ≡ some r → (n < 13) × (nth n ≡ r) × (r.temperature.0 ≡ zero_degrees + 500 * suc n)
row_indexed n e = let at = indexed blank table n e in (at.0, at.1, rw at.1 at (nth_at n at.0))

-- The search ends at row k of a list where rows 0 to k are not above t, and the next one is.
either_side :
    (t : Temperature) (k : ℕ) (rs : List Row) (below : Option Row) → k < length rs →
    ((i : ℕ) → i ≤ k → (get_or rs i blank).temperature.0 ≤ t.0) →
    (suc k < length rs → t.0 < (get_or rs (suc k) blank).temperature.0) →
    neighbours t below rs ≡ record { below = some (get_or rs k blank); above = get_elem? rs (suc k) }
unfolding neighbours
either_side t k [] below lt up next = absurd (not-suc-le-zero lt)
either_side t zero (r ∷ []) below lt up next = rw (le-leb r.temperature.0 t.0 (up 0 (omega arith)))
either_side t zero (r ∷ s ∷ rs) below lt up next =
    rw (le-leb r.temperature.0 t.0 (up 0 (omega arith)), lt-leb s.temperature.0 t.0 (next (omega arith)))
either_side t (suc k) (r ∷ rs) below lt up next =
    rw (le-leb r.temperature.0 t.0 (up 0 (omega arith)))
    (either_side t k rs (some r) (omega arith) (λ i le. up (suc i) (omega arith)) (λ more. next (omega arith)))

-- t is x tenths of a degree beyond row n, and below the next one
pub record Beyond (t : Temperature) (n x : ℕ) : Type 0 where
  pub in_table : n < 13
  pub distance : t.0 ≡ zero_degrees + 500 * suc n + x
  pub near : suc n < 13 → x < 500

-- the row of a temperature by division, the last one where it is above that, and how far it is beyond
abbrev pub row_of : Temperature → ℕ
row_of t = min 12 ((t.0 - (zero_degrees + 500)) / 500)

abbrev pub past : Temperature → ℕ
past t = t.0 - (zero_degrees + 500 * suc (row_of t))

pub position : (t : Temperature) → zero_degrees + 500 ≤ t.0 → Beyond t (row_of t) (past t)
position t from = omega arith

-- the limit there
abbrev pub limit_at : ℕ → ℕ → ℕ → ℕ
limit_at service n x =
    let low = limit_of service (nth n) in
    cond (leb service 2 || eqb x 0) low (interpolated low (limit_of service (nth (suc n))) 500 x)

neither : (b : Bool) → cond {A = ℕ} b 0 0 ≡ 0
neither true = refl
neither false = refl

at_start : (a x : ℕ) → eqb (a + x) a ≡ eqb x 0
at_start a zero = eq-eqb (a + 0) a (omega arith)
at_start a (suc x) = rw (ne_eqb (a + suc x) a (λ e. omega arith), ne_eqb (suc x) 0 (λ e. omega arith))

pub limit_at_lem : (service : ℕ) (t : Temperature) (n x : ℕ) → Beyond t n x → loss_limit service t ≡ limit_at service n x
unfolding loss_limit
limit_at_lem service t n x h =
    let rows = either_side t n table none h.in_table (λ i le. omega (arith, nth_at i (omega arith))) (λ more. omega (arith, nth_at (suc n) more, h.near more)) in
    rw (rows, nth_at n h.in_table, h.distance, at_start (zero_degrees + 500 * suc n) x)
    (elim (eq-or-lt_of_le h.in_table) [
      | inl e ↦
          let last : n ≡ 12 = omega arith in
          rw (last, neither, or-true)
      | inr lt ↦
          let width : (nth (suc n)).temperature.0 - (zero_degrees + 500 * suc n) ≡ 500 = omega (arith, nth_at (suc n) lt) in
          let beyond : zero_degrees + 500 * suc n + x - (zero_degrees + 500 * suc n) ≡ x = omega arith in
          rw (present blank table (suc n) lt, width, beyond)
    ])

pub none_below : (service : ℕ) (t : Temperature) → t.0 < zero_degrees + 500 → loss_limit service t ≡ 0
unfolding loss_limit neighbours
none_below service t lt = rw (lt-leb (zero_degrees + 500) t.0 lt)
