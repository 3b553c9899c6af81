-- A program as plain data: that of its declared type, with each body as a plain tree.
use Rattle.std.specs.Prelude.{ℕ, List, [], map, ℤ, Option, Some, None, slice_get, slice_index_or}
use Rattle.std.specs.Option.{option_map_or}
use Rattle.wm_ops.specs.declared.operators.Width.{Width}
use Rattle.wm_program.specs.declared.program.LocalInfo.{LocalInfo}
use Rattle.wm_program.specs.declared.program.ObjectInfo.{ObjectInfo}
use Rattle.wm_program.specs.declared.program.SiteInfo.{SiteInfo}
use Rattle.wm_program.specs.declared.program.LoopInfo.{LoopInfo}
use Rattle.wm_program.specs.declared.program.InstanceInfo.{InstanceInfo}
use Rattle.wm_program.specs.declared.program.InputInfo.{InputInfo}
use Rattle.wm_program.specs.declared.program.FunctionInfo.{FunctionInfo}
use Rattle.wm_program.specs.declared.program.Program.{Program}
use Rattle.wm_program.specs.declared.program.Root.{Root}
use Rattle.wm_program.specs.declared.program.Root.TheVariants as root
use Rattle.wm_program.specs.Tree.{Tree, Skip}
use Rattle.wm_program.specs.Trees.{body_of}

-- a function
pub record Routine : Type 0 where
  pub result : Option Width
  pub locals : List LocalInfo
  pub parameters : ℕ
  pub body : Tree

-- an input: its object, and the least and greatest number of its cells
pub record Input : Type 0 where
  pub object : ℕ
  pub low : ℤ
  pub high : ℤ

pub record Code : Type 0 where
  pub routines : List Routine
  pub objects : List ObjectInfo
  pub sites : List SiteInfo
  pub loops : List LoopInfo
  pub instances : List InstanceInfo
  pub inputs : List Input
  pub init : Option ℕ
  pub frame : ℕ

abbrev pub routine_of : FunctionInfo → Routine
routine_of function =
    record {
      result = function.result;
      locals = function.locals;
      parameters = function.parameters;
      body = body_of function.body;
    }

abbrev pub input_of : InputInfo → Input
input_of input = record { object = input.object; low = input.range.low; high = input.range.high }

abbrev pub code_of : Program → Code
code_of program =
    record {
      routines = map routine_of program.functions;
      objects = program.objects;
      sites = program.sites;
      loops = program.loops;
      instances = program.instances;
      inputs = map input_of program.inputs;
      init = program.init;
      frame = program.frame;
    }

-- a function of a number that no function has
abbrev pub no_routine : Routine
no_routine = record { result = None; locals = []; parameters = 0; body = Skip }

abbrev pub routine_at : Code → ℕ → Routine
routine_at code function = slice_index_or code.routines function no_routine

-- the function of an instance
abbrev pub function_of : Code → ℕ → ℕ
function_of code instance = option_map_or (λ it. it.function) (slice_get code.instances instance) 0

-- what the view parameters of an instance look into
abbrev pub roots_of : Code → ℕ → List Root
roots_of code instance = option_map_or (λ it. it.roots) (slice_get code.instances instance) []

abbrev pub array_length : Option ℕ → ℕ
array_length None = 1
array_length (Some count) = count

-- how many cells a local has: a scalar and the offset of a view one
abbrev pub cells_in : LocalInfo → ℕ
cells_in local = array_length local.array

abbrev pub local_cells : Routine → ℕ → ℕ
local_cells routine local = option_map_or cells_in (slice_get routine.locals local) 0

-- how many cells a root has
abbrev pub length_of : Code → Root → ℕ
length_of code (root.Object object) = option_map_or (λ it. it.length) (slice_get code.objects object) 0
length_of code (root.Local instance local) = local_cells (routine_at code (function_of code instance)) local
