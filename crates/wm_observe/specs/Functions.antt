-- The frame functions of a program, and which of them a frame runs.
use Rattle.std.specs.Prelude.{ℕ, ◌-◌, ◌==◌, Bool, if◌then◌else◌, List, ℤ, pos, negsuc, Option, Some, None, slice_get}
use Rattle.wm_program.specs.declared.program.FunctionInfo.{FunctionInfo}
use Rattle.wm_program.specs.declared.program.InputInfo.{InputInfo}
use Rattle.wm_program.specs.declared.program.InstanceInfo.{InstanceInfo}
use Rattle.wm_program.specs.declared.program.Program.{Program}

abbrev pub tokens_in : Option FunctionInfo → ℕ
tokens_in None = 1
tokens_in (Some info) = info.tokens

abbrev pub function_at : Option InstanceInfo → ℕ
function_at None = 0
function_at (Some info) = info.function

-- Where there are several frame functions a function of no tokens chooses between them.
abbrev pub is_several : Program → Bool
is_several program = tokens_in (slice_get program.functions (function_at (slice_get program.instances program.frame))) == 0

abbrev pub least_nought : ℤ → ℕ
least_nought (pos n) = n
least_nought (negsuc n) = 0

abbrev pub high_of : Option InputInfo → ℕ
high_of None = 0
high_of (Some input) = least_nought input.range.high

-- the first input then goes from 1 to their number
abbrev pub functions_in : Program → ℕ
functions_in program = if is_several program then high_of (slice_get program.inputs 0) else 1

abbrev pub chosen : Option ℤ → ℕ
chosen None = 0
chosen (Some number) = least_nought number - 1

-- the function of a frame with these inputs, from 0
abbrev pub function_of : Bool → List ℤ → ℕ
function_of several values = if several then chosen (slice_get values 0) else 0
