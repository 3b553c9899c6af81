-- Those that are left go on from what was found.
use Rattle.std.proofs.Common.{◌≡◌, drop, []}
use Rattle.wm_reading.specs.Finishing.{objects}
use Rattle.wm_reading.proofs.finish.objects.Given as goal

abbrev pub invariant-loop-info : goal.invariant-loop-info
invariant-loop-info l = objects l.taken l.found (drop l.info-index l.infos) ≡ objects l.taken [] l.infos
