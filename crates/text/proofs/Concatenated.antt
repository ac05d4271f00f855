-- None of the texts is put, and one text more.
-- Assumes nothing.
use mathlib.Core.Path.{◌≡◌, sym}
use mathlib.Core.List.{List, ◌++◌, append-nil, append_assoc}
use Prim.Native.Nat.{ℕ, ◌+◌}
use native.Mathlib.Numerals.{add-one}
use Rattle.text.specs.Text.{concatenated}

pub none : (text : ℕ → List ℕ) (old : List ℕ) → old ≡ old ++ concatenated text 0
unfolding concatenated
none text old = sym (append-nil old)

pub next : (text : ℕ → List ℕ) (k : ℕ) (old : List ℕ) {now new : List ℕ} → now ≡ old ++ concatenated text k → new ≡ now ++ text k → new ≡ old ++ concatenated text (k + 1)
unfolding concatenated
next text k old so_far more = rw (more, so_far, add-one k) (append_assoc old (concatenated text k) (text k))

-- what a search takes to put the texts one after the other
pub ruleset concatenations = (none, next)
