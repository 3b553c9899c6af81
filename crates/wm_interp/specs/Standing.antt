-- Where a machine stands.
use Rattle.std.specs.Prelude.{ℕ, List, Option, Some, None}
use Rattle.wm_ops.specs.declared.words.Counted.{Counted}
use Rattle.wm_program.specs.declared.inputs.Inputs.{Inputs}
use Rattle.wm_program.specs.Code.{Code, code_of}
use Rattle.wm_program.specs.Runs.{Frame}
use Rattle.wm_weights.specs.Table.{weight_of}
use Rattle.wm_interp.specs.declared.frames.Ran.{Ran}
use Rattle.wm_interp.specs.declared.machine.Machine.{Machine}
use Rattle.wm_interp.specs.Frames.{Stand}
use Rattle.wm_interp.specs.Seen.{held_of}

abbrev pub ran_seen : Ran → Stand
ran_seen ran = record { held = held_of ran.memory; halted = ran.halted }

abbrev pub ran_kept : Option Ran → Option Stand
ran_kept None = None
ran_kept (Some ran) = Some (ran_seen ran)

-- what the machine holds between frames; nothing before a start, and after memory ran out
abbrev pub stand_of : Machine → Option Stand
stand_of machine = ran_kept machine.ran

-- the program that it runs, and the weights by which it counts
abbrev pub code_in : Machine → Code
code_in machine = code_of machine.program.now

abbrev pub weights_in : Machine → Counted → Option ℕ
weights_in machine = weight_of machine.weights.now

abbrev pub frame_with : Inputs → ℕ → Frame
frame_with inputs steps = record { values = inputs.values; steps = steps }
