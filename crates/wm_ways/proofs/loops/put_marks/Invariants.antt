use Rattle.std.proofs.Common.{◌≡◌, drop}
use Rattle.wm_ways.specs.Loops.{marked}
use Rattle.wm_ways.proofs.loops.put_marks.Given as goal

abbrev pub invariant-loop-turning : goal.invariant-loop-turning
invariant-loop-turning l = marked (drop l.turning-index l.turnings) l.marks.items ≡ marked l.turnings l.fn.marks.items
