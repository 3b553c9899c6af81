-- Those that are left are read behind what was found, as all are.
use Rattle.std.proofs.Common.{◌≡◌, drop, []}
use Rattle.wm_body.specs.Simples.{all_simple}
use Rattle.wm_body.proofs.acts.simples.Given as goal

abbrev pub invariant-loop-one : goal.invariant-loop-one
invariant-loop-one l =
    all_simple l.scope l.found (drop l.one-index l.simples) l.marks ≡ all_simple l.scope [] l.simples l.fn.marks
