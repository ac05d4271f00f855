-- How large a limit of heat loss is.
-- Assumes nothing.
use mathlib.Core.Path.{◌≡◌, refl}
use mathlib.Core.Bool.{Bool, true, false, cond, ◌||◌, or-true}
use mathlib.Core.Logic.{◌⊎◌, inl, inr}
use Prim.Native.Nat.{ℕ, zero, suc, ◌+◌, ◌-◌, ◌*◌, ◌≤◌, ◌<◌}
use native.Mathlib.Nat.{mul-le-mul_right, eq-or-lt_of_le}
use native.Mathlib.Omega.{arith}
use lib.Dec.{leb, eqb}
use borrow.Author.Tests.{leb-true, leb-false, eqb-false, ne_eqb}
use borrow.Enum.Match.{each_below}
use Rattle.std.specs.Prelude.{if◌then◌else◌, Some, None}
use Rattle.temperatures.specs.declared.Temperature.{Temperature}
use Rattle.temperatures.specs.Temperature.{zero_degrees}
use Rattle.limits.specs.Limits.{limit_of, interpolated, loss_limit}
use Rattle.limits.specs.Printed.{printed}
use Rattle.limits.proofs.Rows.{nth, row_of, past, position, limit_at, limit_at_lem, none_below}

-- none, or from 1 to 314 W/m² in tenths
abbrev pub Size : ℕ → Type 0
Size limit = (limit ≡ 0) ⊎ ((10 ≤ limit) × (limit ≤ 3_140))

by_column : (c : ℕ) → c ≤ 314 → Size (10 * c)
by_column zero le = inl refl
by_column (suc c) le = inr (omega arith, omega arith)

row_size : (service n : ℕ) → n < 14 → Size (limit_of service (nth n))
row_size service n lt = by_column _ (elim (eqb service 1 || eqb service 3) as (λ b. cond b (nth n).year_round (nth n).seasonal ≤ 314) [ true ↦ year_round n lt | false ↦ seasonal n lt ])
  where
    year_round : (n : ℕ) → n < 14 → (nth n).year_round ≤ 314
    year_round = each_below 14 (λ n. (nth n).year_round ≤ 314) (omega arith)

    seasonal : (n : ℕ) → n < 14 → (nth n).seasonal ≤ 314
    seasonal = each_below 14 (λ n. (nth n).seasonal ≤ 314) (omega arith)

line_size : (low high x : ℕ) → Size low → Size high → (x ≤ 500) ⊎ (high ≡ 0) → Size (interpolated low high 500 x)
line_size low high x (inl e) h near = inl (rw e)
line_size low high x (inr l) (inl e) near = inl (rw (e, or-true))
line_size low high x (inr l) (inr h) (inr e) = absurd (omega (arith, e, h))
line_size low high x (inr l) (inr h) (inl le) =
    rw (ne_eqb low 0 (λ e. omega (arith, l)), ne_eqb high 0 (λ e. omega (arith, h)))
    (inr (omega (arith, mul-le-mul_right (500 - x) l.0, mul-le-mul_right x h.0), omega (arith, mul-le-mul_right (500 - x) l.1, mul-le-mul_right x h.1)))

-- from the first row on, x tenths of a degree beyond row n
beyond_size : (service n x : ℕ) → n < 13 → (suc n < 13 → x < 500) → Size (limit_at service n x)
beyond_size service n x lt near =
    let low = row_size service n (omega arith) in
    let line = line_size _ _ x low (row_size service (suc n) (omega arith)) (elim (eq-or-lt_of_le lt) [ inl e ↦ inr (last n (omega arith)) | inr next ↦ inl (omega (arith, near next)) ]) in
    elim (leb service 2 || eqb x 0) as (λ b. Size (cond b (limit_of service (nth n)) (interpolated (limit_of service (nth n)) (limit_of service (nth (suc n))) 500 x))) [ true ↦ low | false ↦ line ]
  where
    last : (n : ℕ) → n ≡ 12 → limit_of service (nth (suc n)) ≡ 0
    last n e = rw e (elim (eqb service 1 || eqb service 3) as (λ b. 10 * cond b 0 0 ≡ 0) [ true ↦ refl | false ↦ refl ])

pub limit_size : (service : ℕ) (t : Temperature) → Size (loss_limit service t)
limit_size service t = go (leb (zero_degrees + 500) t.0) refl
  where
    go : (b : Bool) → leb (zero_degrees + 500) t.0 ≡ b → Size (loss_limit service t)
    go true e =
        let here = position t (leb-true _ _ e) in
        rw (limit_at_lem service t (row_of t) (past t) here) (beyond_size service (row_of t) (past t) here.in_table here.near)
    go false e = inl (none_below service t (omega (arith, leb-false _ _ e)))

-- a limit that is there is printed
pub some_size : {limit : ℕ} → Size limit → ¬ (limit ≡ 0) → (10 ≤ limit) × (limit ≤ 3_140)
some_size (inl e) some = absurd (some e)
some_size (inr within) some = within

pub printed_size : (service : ℕ) (t : Temperature) (x : ℕ) → printed (loss_limit service t) ≡ Some x → (10 ≤ x) × (x ≤ 3_140)
printed_size service t x = go (eqb (loss_limit service t) 0) refl
  where
    go : (b : Bool) → eqb (loss_limit service t) 0 ≡ b → (if b then None else Some (loss_limit service t)) ≡ Some x → (10 ≤ x) × (x ≤ 3_140)
    go true e h = cc
    go false e h =
        let is : loss_limit service t ≡ x = cc in
        rw is at (some_size (limit_size service t) (eqb-false _ _ e))
