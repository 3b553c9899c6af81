use Rattle.std.proofs.Common.{◌≡◌, ◌++◌, drop}
use Rattle.wm_grid.specs.Given.{near_objects}
use Rattle.wm_grid.proofs.given.push_objects.Given as goal

abbrev pub invariant-loop-object : goal.invariant-loop-object
invariant-loop-object l = l.numbers.items ++ near_objects l.steps (drop l.object-index l.objects) ≡ l.fn.numbers.items ++ near_objects l.steps l.objects
