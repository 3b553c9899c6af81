use Rattle.std.proofs.Common.{◌≡◌, map, take}
use Rattle.wm_program.specs.Runs.{initial_cells}
use Rattle.wm_interp.proofs.frames.first_objects.Given as goal

abbrev pub invariant-loop-object : goal.invariant-loop-object
invariant-loop-object l = l.store ≡ map initial_cells (take l.object-index l.objects)
