-- The law of a root in two parts.
use Rattle.std.proofs.Common.{◌∙◌, arith}
use Rattle.fractions.proofs.Sides.{both_of}
use Rattle.roots.proofs.Parts.{first_part, both_parts}
use Rattle.roots.proofs.root.Goals as goal

pub increment-v-requires : goal.increment-v-requires
increment-v-requires c =
    let got = c.whole_root-u.ensures in
    let part = first_part c.args.k c.args.n c.args.d c.whole_root-u.result c.requires.0 c.requires.1 c.requires.3 got.0 got.1 got.2 in
    (omega (arith, part), omega (arith, part), omega (arith, part), omega arith)

pub returns : goal.returns
returns c =
    let got = c.increment-v.ensures in
    let parts = both_parts c.args.k c.args.n c.args.d c.whole_root-u.result c.increment-v.result c.requires.3 c.whole_root-u.ensures.0 got.0 got.1 in
    c.from_floor.ensures ∙ both_of parts.lower parts.upper
