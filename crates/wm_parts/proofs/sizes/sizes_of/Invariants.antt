use Rattle.std.proofs.Common.{◌≡◌, length}
use Rattle.std.specs.Prelude.{replicate}
use Rattle.wm_program.specs.Code.{code_of}
use Rattle.wm_flow.specs.Parts.{sized}
use Rattle.wm_parts.proofs.sizes.sizes_of.Given as goal

abbrev pub invariant-loop-left : goal.invariant-loop-left
invariant-loop-left l =
    sized (code_of l.program) l.tables l.sums l.left l.sizes.items
    ≡ sized (code_of l.program) l.tables l.sums l.count (replicate l.count 0)

abbrev pub decreases-loop-left : goal.decreases-loop-left
decreases-loop-left l = l.left
