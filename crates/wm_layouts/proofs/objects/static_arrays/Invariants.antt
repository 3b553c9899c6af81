use Rattle.std.proofs.Common.{◌≡◌, ◌++◌, drop}
use Rattle.wm_flow.specs.Layouts.{ranges_where, is_static_array}
use Rattle.wm_layouts.specs.Ranges.{ranges_of}
use Rattle.wm_layouts.proofs.objects.static_arrays.Given as goal

abbrev pub invariant-loop-object : goal.invariant-loop-object
invariant-loop-object l = ranges_of l.list ++ ranges_where is_static_array (drop l.object-index l.objects) ≡ ranges_where is_static_array l.objects
