use Rattle.std.proofs.Common.{◌≡◌, ◌++◌, drop, map}
use Rattle.wm_program.specs.Code.{input_of}
use Rattle.wm_flow.specs.Views.{bounded_of}
use Rattle.wm_flow.specs.Graphs.{array_inputs}
use Rattle.wm_frames.proofs.inputs.arrays.Given as goal

abbrev pub invariant-loop-input : goal.invariant-loop-input
invariant-loop-input l =
    map bounded_of l.list ++ array_inputs l.tables (map input_of (drop l.input-index l.inputs))
    ≡ array_inputs l.tables (map input_of l.inputs)
