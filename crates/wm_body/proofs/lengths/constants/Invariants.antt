-- Those that are left are read behind what was found, as all are.
use Rattle.std.proofs.Common.{◌≡◌, drop, []}
use Rattle.wm_body.specs.Lengths.{constants_in}
use Rattle.wm_body.proofs.lengths.constants.Given as goal

abbrev pub invariant-loop-value : goal.invariant-loop-value
invariant-loop-value l =
    constants_in l.scope l.width l.found (drop l.value-index l.values) l.marks ≡ constants_in l.scope l.width [] l.values l.fn.marks
