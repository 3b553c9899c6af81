use Rattle.std.proofs.Common.{◌≡◌, ◌++◌, drop}
use Rattle.wm_bounds.specs.Parts.{parts_from}
use Rattle.wm_bounds.proofs.parts.parts_between.Given as goal

abbrev pub invariant-loop-k : goal.invariant-loop-k
invariant-loop-k l = l.parts.items ++ parts_from l.fn.frame l.firsts l.k (drop l.k l.firsts) ≡ parts_from l.fn.frame l.firsts 0 l.firsts
