-- Blocks that are listed one after the other.
-- Assumes nothing.
use Rattle.std.proofs.Common.{◌≡◌, ℕ, ◌+◌, ◌-◌, ◌*◌, ◌^◌, ◌<◌, ◌≤◌, Bool, true, false, refl, sym, ap, ◌∙◌, subst, List, [], ◌++◌, Option, None, Some, IfSome, length, append_assoc, append-nil, length-append, arith}
use Rattle.std.specs.Io.KnownBytes.{Appends, Consumes}
use Rattle.std.proofs.KnownBytes.{Appends-trans, Consumes-all, Consumes-nil, Consumes-trans}
use Rattle.listing_text.specs.Listing.{header, lines_of, listing}
use Rattle.listing_text.proofs.Cut.{cut, none}
use Rattle.listing.specs.Block.{ListsBlock, ListsAll}

-- the header and the lines of the blocks that were read are written
pub record Listed (left rest held written : Option (List ℕ)) (blocks : ℕ) : Type 0 where
  pub sheets : List ℕ
  pub read : Consumes left rest sheets
  pub count : length sheets ≡ 512 * 24 * blocks
  pub listed : Appends held written (listing sheets)

pub begun : (left held written : Option (List ℕ)) → Appends held written header → Listed left left held written 0
begun left held written top = record {
  sheets = [];
  read = Consumes-nil left;
  count = omega arith;
  listed = subst (Appends held written) (sym (ap (λ lines. header ++ lines) none ∙ append-nil header)) top;
}

-- what holds of bytes holds of the input that they are
of_input : (left : Option (List ℕ)) (P : List ℕ → Type 0) (bytes : List ℕ) → IfSome left (λ input. bytes ≡ input) → P bytes → IfSome left P
of_input None P bytes same holds = tt
of_input (Some input) P bytes same holds = subst P same holds

module _ (left middle rest held now written : Option (List ℕ)) (blocks : ℕ) (so_far : Listed left middle held now blocks) where
  -- the lines of what was read now stand after those of what was read before, since that is whole sheets
  joined : (sheets : List ℕ) → Appends now written (lines_of sheets) → Appends held written (listing (so_far.sheets ++ sheets))
  joined sheets lines =
      let before = so_far.sheets in
      let whole : length before ≡ 24 * (512 * blocks) = let count = so_far.count in omega arith in
      let same = append_assoc header (lines_of before) (lines_of sheets) ∙ ap (λ lines. header ++ lines) (sym (cut before sheets (512 * blocks) whole)) in
      subst (Appends held written) same (Appends-trans held now written (listing before) (lines_of sheets) so_far.listed lines)

  pub one_more : ListsBlock middle rest now written true → Listed left rest held written (blocks + 1)
  one_more block = record {
    sheets = so_far.sheets ++ block.sheets;
    read = Consumes-trans left middle rest so_far.sheets block.sheets so_far.read block.read;
    count = let sum = length-append so_far.sheets block.sheets in let full = block.full refl in let count = so_far.count in omega arith;
    listed = joined block.sheets block.listed;
  }

  pub last : (more : Bool) → ListsBlock middle rest now written more → more ≡ false → ListsAll left held written
  unfolding ListsAll
  last more block end =
      let bytes = so_far.sheets ++ block.sheets in
      let all = Consumes-trans left middle rest so_far.sheets block.sheets so_far.read block.read in
      of_input left (λ input. length input < 2 ^ 64 → Appends held written (listing input)) bytes (Consumes-all left rest bytes [] bytes all (block.end end) refl)
      (λ short. joined block.sheets block.listed)

-- so many blocks are more than a run reads
pub endless : (left rest held written : Option (List ℕ)) (blocks : ℕ) → Listed left rest held written blocks → 2 ^ 64 - 1 ≤ blocks → ListsAll left held written
unfolding ListsAll
endless None rest held written blocks so_far most = tt
endless (Some input) None held written blocks so_far most = absurd so_far.read
endless (Some input) (Some rest) held written blocks so_far most = λ short.
    let bytes = ap length so_far.read ∙ length-append so_far.sheets rest in
    let count = so_far.count in
    absurd (omega arith)

-- what a search takes to list block after block
pub ruleset blocks = (begun, one_more)
