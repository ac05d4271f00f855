-- Laws of bytes put over bytes.
-- Assumes nothing.
use mathlib.Core.Path.{◌≡◌, ap, ◌∙◌}
use mathlib.Core.List.{List, [], ◌∷◌, ◌++◌, append_assoc, append-nil}
use Prim.Native.Nat.{ℕ, zero, suc, ◌+◌, ◌-◌, ◌≤◌}
use native.Mathlib.Nat.{add-zero, zero-add, suc-add}
use native.Mathlib.Omega.{arith}
use borrow.Rule.Slice.PartMut.{put_mid}
use lib.ListN.{length, drop, set, length-append, take-append-drop, drop_of_length-le}
use lib.Seq.{take_all, take-append_seam, drop-append-add, drop-drop}
use Rattle.overlay.specs.Overlay.{overlay, Written}

-- one piece after another is the two as one piece
pub overlay_more : (b : List ℕ) (offset : ℕ) (v w : List ℕ) → overlay (overlay b offset v) (offset + length v) w ≡ overlay b offset (v ++ w)
unfolding overlay
overlay_more b zero v w =
    simp (zero-add, length-append) (rw (take-append_seam v (drop (length v) b), drop-append-add v (drop (length v) b) (length w), drop-drop))
overlay_more [] (suc k) v w =
    simp suc-add (rw (append-nil v, take_all (suc (k + length v)) v (omega arith), drop_of_length-le v {i = suc (k + length v + length w)} (omega arith)))
overlay_more (x ∷ b) (suc k) v w = simp suc-add (ap (λ (l : List ℕ). x ∷ l) (overlay_more b k v w))

-- one byte in front of a piece
pub overlay_first : (b : List ℕ) (offset x : ℕ) (v : List ℕ) → suc offset + length v ≤ length b → set (overlay b (suc offset) v) offset x ≡ overlay b offset (x ∷ v)
unfolding overlay
overlay_first [] offset x v fits = absurd (omega arith)
overlay_first (y ∷ b) zero x v fits = rw (suc-add 0 (length v), zero-add (length v), zero-add (suc (length v)))
overlay_first (y ∷ b) (suc k) x v fits = rw (suc-add (suc k) (length v), suc-add k (suc (length v)), overlay_first b k x v (omega arith))

-- a part that was copied into, back in its place
pub put_back : (b : List ℕ) (offset : ℕ) (v part : List ℕ) → offset + length v ≤ length b → part ≡ v → put_mid offset (offset + length v - offset) b part ≡ overlay b offset v
unfolding overlay
put_back b offset v part fits is =
    let size : offset + length v - offset ≡ length v = omega arith in
    rw (is, size, drop-drop, ← append_assoc)

-- no piece at all
pub nothing : (b : List ℕ) (offset : ℕ) → overlay b offset [] ≡ b
unfolding overlay
nothing b offset = rw (add-zero, append-nil) (take-append-drop offset b)

-- one piece after another
pub then : {b v c w d : List ℕ} {offset e f : ℕ} → Written b offset v c e → Written c e w d f → Written b offset (v ++ w) d f
then {b} {v} {w = w} {offset = offset} first second =
    record { end = omega (arith, length-append v w); bytes = second.bytes ∙ rw (first.bytes, first.end) (overlay_more b offset v w) }
