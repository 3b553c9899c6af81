-- The objects of a machine as they stand.
use Rattle.std.specs.Prelude.{List, [], Option, Some, None}
use Rattle.wm_program.specs.State.{Cells}
use Rattle.wm_interp.specs.Frames.{Stand}

abbrev pub objects_in : Option Stand → List Cells
objects_in None = []
objects_in (Some stand) = stand.held.state.objects
