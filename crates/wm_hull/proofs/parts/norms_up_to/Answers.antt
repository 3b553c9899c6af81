use Rattle.std.proofs.Common.{◌∙◌, pos, w64, FitsSigned, ◌≤ℤ◌, rules}
use Rattle.std.proofs.lemmas.Int.{to_z-of_z}
use Rattle.wm_ops.specs.Arguments.{ArgsFit}
use Rattle.wm_hull.proofs.NormRanges.{norm_types, norm_natural}
use Rattle.wm_hull.proofs.parts.norms_up_to.Goals as goal

pub norm-high-requires-clause-types : goal.norm-high-requires-clause-types
norm-high-requires-clause-types c =
    let fits = c.ranges.a in
    let types : ArgsFit c.args.op c.args.a (pos 0) (pos 0) = norm_types c.args.op c.requires.norm c.args.a c.requires.types in
    simp to_z-of_z types

pub new-requires : goal.new-requires
new-requires c =
    let first : FitsSigned w64 c.norm-high.result = search rules in
    let natural : pos 0 ≤ℤ c.norm-high.result = norm_natural c.args.op c.requires.norm _ _ c.norm-high.ensures in
    simp to_z-of_z natural

pub returns-clause-high : goal.returns-clause-high
returns-clause-high c =
    let fits = c.ranges.a in
    let first : FitsSigned w64 c.norm-high.result = search rules in
    simp to_z-of_z at c.new.ensures.high ∙ simp to_z-of_z at c.norm-high.ensures
