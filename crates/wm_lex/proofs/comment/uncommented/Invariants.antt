-- What is left so far, and what the rest of the characters leave in the region.
use Rattle.std.proofs.Common.{◌≡◌, ◌++◌, drop}
use Rattle.wm_lex.specs.Comments.{uncommented_from, uncommented, last_region_from, last_region}
use Rattle.wm_lex.proofs.comment.uncommented.Given as goal

abbrev pub invariant-loop-index : goal.invariant-loop-index
invariant-loop-index l = record {
  left : l.left.items ++ uncommented_from l.region (drop l.index l.characters) ≡ uncommented l.characters;
  last : last_region_from l.region (drop l.index l.characters) ≡ last_region l.characters;
}
