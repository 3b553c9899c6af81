-- Those that are left go on from what was found.
use Rattle.std.proofs.Common.{◌≡◌, drop, []}
use Rattle.wm_reading.specs.Finishing.{locals}
use Rattle.wm_reading.proofs.finish.locals.Given as goal

abbrev pub invariant-loop-info : goal.invariant-loop-info
invariant-loop-info l = locals l.taken l.found (drop l.info-index l.infos) ≡ locals l.taken [] l.infos
