-- Parts of bytes that other bytes were put over.
-- Assumes nothing.
use mathlib.Core.Path.{◌≡◌}
use mathlib.Core.List.{List, [], ◌∷◌, ◌++◌, append_assoc}
use Prim.Native.Nat.{ℕ, zero, suc, ◌+◌, ◌-◌, ◌≤◌}
use native.Mathlib.Nat.{add-sub_of_le, suc-add}
use native.Mathlib.Omega.{arith}
use lib.ListN.{length, take, drop, length-append, length-take, length-drop}
use lib.Seq.{length-take-le, take-append_seam, take-append-le, take-take, drop_at, drop-drop}
use Rattle.overlay.specs.Overlay.{part, overlay}

module _ (b : List ℕ) (offset : ℕ) (v : List ℕ) where
  pub length_overlay : offset + length v ≤ length b → length (overlay b offset v) ≡ length b
  unfolding overlay
  length_overlay fits = simp (length-append, length-drop, length-take) (omega arith)

  -- the bytes that were put
  pub part_at : offset ≤ length b → part (overlay b offset v) offset (length v) ≡ v
  unfolding overlay
  part_at within = rw (append_assoc, drop_at (take offset b) _ offset (length-take-le offset b within)) (take-append_seam v _)

  -- parts after them and before them are as they were
  pub part_after : (p n : ℕ) → offset + length v ≤ p → offset ≤ length b → part (overlay b offset v) p n ≡ part b p n
  unfolding overlay
  part_after p n behind within =
      let end = offset + length v in
      let size : length (take offset b ++ v) ≡ end = simp length-append (omega (arith, length-take-le offset b within)) in
      rw (← add-sub_of_le behind, ← drop-drop (p - end) end (take offset b ++ v ++ drop end b), drop_at (take offset b ++ v) (drop end b) end size, drop-drop)

pub part_before : (b : List ℕ) (offset : ℕ) (v : List ℕ) (p n : ℕ) → p + n ≤ offset → offset ≤ length b → part (overlay b offset v) p n ≡ part b p n
unfolding overlay
part_before b offset v zero n before within =
    rw (append_assoc, take-append-le n (take offset b) _ (omega (arith, length-take-le offset b within)), take-take n offset b (omega arith))
part_before [] offset v (suc p) n before within = absurd (omega arith)
part_before (x ∷ b) zero v (suc p) n before within = absurd (omega arith)
part_before (x ∷ b) (suc k) v (suc p) n before within = rw suc-add (part_before b k v p n (omega arith) (omega arith))
