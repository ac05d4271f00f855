-- What is promised of the loss limits.
-- Assumes nothing.
use mathlib.Core.Path.{◌≡◌, refl}
use mathlib.Core.Bool.{Bool, true, false, cond, ◌||◌, or-true}
use mathlib.Core.Logic.{inl, inr}
use Prim.Native.Nat.{ℕ, zero, suc, ◌+◌, ◌-◌, ◌*◌, ◌/◌, ◌≤◌, ◌<◌}
use native.Mathlib.Nat.{mul-add, sub-add_cancel, mul-le-mul_right, eq-or-lt_of_le}
use native.Mathlib.Omega.{arith}
use lib.Dec.{leb, eqb}
use borrow.Author.Tests.{le-leb, lt-leb, ne_eqb}
use borrow.Enum.Match.{AllBelow, each_below}
use Rattle.temperatures.specs.declared.Temperature.{Temperature}
use Rattle.temperatures.specs.Temperature.{zero_degrees, tenths_celsius}
use Rattle.limits.specs.Limits.{Row, column, limit_of, loss_limit}
use Rattle.limits.proofs.Rows.{nth, nth_at, row_present, row_indexed, Beyond, row_of, past, position, limit_at, limit_at_lem, none_below}
use Rattle.promises.specs.Limits.{Neighbouring, NoneAbove, Limits}

-- The limits rise from row to row, as far as they are printed: so it is in both columns.
abbrev Rises : (Row → ℕ) → ℕ → Type 0
Rises limit n = 0 < 10 * limit (nth (suc n)) → 10 * limit (nth n) ≤ 10 * limit (nth (suc n))

rising : (service n : ℕ) → n < 12 → Rises (column service) n
rising service =
    each_below 12 (Rises (column service))
    (elim (eqb service 1 || eqb service 3) as (λ b. AllBelow 12 (Rises (λ r. cond b r.year_round r.seasonal))) [ true ↦ omega arith | false ↦ omega arith ])

-- What holds of both numbers holds of the one that is chosen.
chosen : (P : ℕ → Type 0) (b : Bool) {x y : ℕ} → P x → P y → P (cond b x y)
chosen P true px py = px
chosen P false px py = py

-- At the start of the line is its low end.
start : (low high x : ℕ) → let line = (low * (500 - x) + high * x) / 500 in cond (eqb x 0) low line ≡ line
start low high zero = omega arith
start low high (suc x) = rw (ne_eqb (suc x) 0 (λ e. omega arith))

-- Between two neighbouring rows, x tenths of a degree beyond the first: services 1 and 2 keep its limit, services 3 and 4 have the line.
module _ (service : ℕ) (low high : Row) (t : Temperature) (x : ℕ) (rows : Neighbouring service low high) (from : t.0 ≡ low.temperature.0 + x) (to : t.0 < high.temperature.0) where
  abbrev line : ℕ
  line = limit_of service low * (500 - x) + limit_of service high * x

  abbrev i : ℕ
  i = rows.in_table.0

  first : (i < 13) × (nth i ≡ low) × (low.temperature.0 ≡ zero_degrees + 500 * suc i)
  first = row_indexed i rows.in_table.1

  next : (suc i < 13) × (nth (suc i) ≡ high) × (high.temperature.0 ≡ zero_degrees + 500 * suc (suc i))
  next = row_indexed (suc i) rows.in_table.2

  limit : loss_limit service t ≡ cond (leb service 2 || eqb x 0) (limit_of service low) (line / 500)
  limit =
      let here = limit_at_lem service t i x (omega (arith, first, next)) in
      let some = ne_eqb (limit_of service low) 0 (λ e. omega (arith, rows.low_printed)) in
      let more = ne_eqb (limit_of service high) 0 (λ e. omega (arith, rows.high_printed)) in
      rw (first.1, next.1, some, more) at here

  whole : (y : ℕ) → y * (500 - x) + y * x ≡ y * 500
  whole y = rw (← mul-add y (500 - x) x, sub-add_cancel {n = 500} {m = x} (omega (arith, first, next)))

  limits_between : (limit_of service low ≤ loss_limit service t) × (loss_limit service t ≤ limit_of service high)
  limits_between =
      let up : limit_of service low ≤ limit_of service high = rw (first.1, next.1) at (rising service i (omega (arith, next.0))) rows.high_printed in
      rw limit (chosen (λ l. (limit_of service low ≤ l) × (l ≤ limit_of service high)) (leb service 2 || eqb x 0) (omega arith, up)
      (omega (arith, whole (limit_of service low), mul-le-mul_right x up), omega (arith, whole (limit_of service high), mul-le-mul_right (500 - x) up)))

  straight : 3 ≤ service → loss_limit service t ≡ line / 500
  straight lines = rw (limit, lt-leb service 2 lines) (start (limit_of service low) (limit_of service high) x)

-- A service whose limits are printed in the rows before `last`.
module _ (service last : ℕ) (printed : AllBelow 13 (λ n. n < last → 0 < limit_of service (nth n))) (t : Temperature) (from : zero_degrees + 500 ≤ t.0) where
  printed_in : (n : ℕ) → n < 13 → n < last → 0 < limit_of service (nth n)
  printed_in = each_below 13 (λ n. n < last → 0 < limit_of service (nth n)) printed

  limit_here : loss_limit service t ≡ limit_at service (row_of t) (past t)
  limit_here = limit_at_lem service t (row_of t) (past t) (position t from)

  kept : service ≤ 2 → t.0 < zero_degrees + 500 * suc last → 0 < loss_limit service t
  kept rows to = rw (limit_here, le-leb service 2 rows) (printed_in (row_of t) (omega arith) (omega arith))

  lined : last ≤ 13 → t.0 ≤ zero_degrees + 500 * last → 0 < loss_limit service t
  lined most to =
      let n = row_of t in
      let within : n < last = omega arith in
      let low = printed_in n (omega arith) within in
      elim (eq-or-lt_of_le within) [
        | inl e ↦ let here : past t ≡ 0 = omega arith in rw (limit_here, here, or-true) low
        | inr lt ↦
            let rows : Neighbouring service (nth n) (nth (suc n)) = record { in_table = (n, row_present n (omega arith), row_present (suc n) (omega arith)); low_printed = low; high_printed = printed_in (suc n) (omega arith) lt } in
            let up = nth_at (suc n) (omega arith) in
            omega (arith, low, (limits_between service (nth n) (nth (suc n)) t (past t) rows (omega (arith, nth_at n (omega arith))) (omega arith)).0)
      ]

-- The seasonal column is empty from row 8 on.
none_seasonal : (n : ℕ) → n < 13 → 8 ≤ n → (nth n).seasonal ≡ 0
none_seasonal = each_below 13 (λ n. 8 ≤ n → (nth n).seasonal ≡ 0) (omega arith)

none_interpolated : NoneAbove 4 (tenths_celsius 4_000)
none_interpolated t above =
    let from : 7 ≤ row_of t = omega arith in
    rw (limit_at_lem 4 t (row_of t) (past t) (position t (omega arith)))
    (elim (eq-or-lt_of_le from) [
      | inl e ↦ rw (ne_eqb (past t) 0 (λ z. omega arith), none_seasonal (suc (row_of t)) (omega arith) (omega arith), or-true)
      | inr lt ↦ rw (none_seasonal (row_of t) (omega arith) lt) (chosen (λ l. l ≡ 0) (eqb (past t) 0) refl refl)
    ])

pub limits : Limits
limits =
    record {
      row_below = λ t r h.
          let i = h.in_table.0 in
          let found = row_indexed i h.in_table.1 in
          let below : suc i < 13 → ¬ ((nth (suc i)).temperature.0 ≤ t.0) = λ lt le. omega (arith, found, nth_at (suc i) lt, h.highest (suc i) (nth (suc i)) (row_present (suc i) lt) le) in
          let x = t.0 - r.temperature.0 in
          let here : Beyond t i x = record { in_table = found.0; distance = omega (arith, found, h.not_above); near = λ lt. omega (arith, found, nth_at (suc i) lt, below lt) } in
          (rw found.1 at (limit_at_lem 1 t i x here), rw found.1 at (limit_at_lem 2 t i x here));
      at_row = λ service i r e.
          let found = row_indexed i e in
          rw (found.1, or-true) at (limit_at_lem service r.temperature i 0 (omega (arith, found)));
      straight_line = λ service low high t a b lines codes rows from to some.
          let left : 500 - b ≡ a = omega (arith, first service low high t b rows from (omega arith), next service low high t b rows from (omega arith)) in
          omega (arith, rw left at (straight service low high t b rows from (omega arith) lines));
      between = λ service low high t rows from to. limits_between service low high t (t.0 - low.temperature.0) rows (omega arith) to;
      all_year = record { printed = λ t from to. kept 1 13 (omega arith) t from (omega arith) (omega arith); none_below = none_below 1 };
      seasonal = (
        record { printed = λ t from to. kept 2 8 (omega arith) t from (omega arith) (omega arith); none_below = none_below 2 },
        λ t above. rw (limit_at_lem 2 t (row_of t) (past t) (position t (omega arith)), none_seasonal (row_of t) (omega arith) (omega arith)),
      );
      year_round_interpolated = record { printed = λ t from to. lined 3 13 (omega arith) t from (omega arith) to; none_below = none_below 3 };
      seasonal_interpolated = (record { printed = λ t from to. lined 4 8 (omega arith) t from (omega arith) to; none_below = none_below 4 }, none_interpolated);
    }
