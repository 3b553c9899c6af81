-- What is made of a unit: which functions are called first, and the instances of all calls.
use Rattle.std.specs.Prelude.{ℕ, Bool, nat_lt, if◌then◌else◌, List, [], ◌∷◌, ◌++◌, length, Option, Some, None}
use Rattle.wm_lang.specs.declared.unit.Unit.{Unit as Source}
use Rattle.wm_program.specs.declared.program.FunctionInfo.{FunctionInfo}
use Rattle.wm_program.specs.declared.program.InstanceInfo.{InstanceInfo}
use Rattle.wm_program.specs.declared.spec.Spec.{Spec}
use Rattle.wm_scope.specs.declared.reading.CallPlace.{CallPlace}
use Rattle.wm_calls.specs.Sizes.{plus, size_at}
use Rattle.wm_inputs.specs.Chooser.{call_places}
use Rattle.wm_inputs.specs.Definitions.{definitions_in}
use Rattle.wm_inputs.specs.Entries.{entry_of, entries_of}
use Rattle.wm_instances.specs.Instances.{root_instance, grown}
use Rattle.wm_assemble.specs.declared.plan.Plan.{Plan}
use Rattle.wm_assemble.specs.declared.plan.Laid.{Laid}

-- there are several frame functions
abbrev pub has_choice : List ℕ → Bool
has_choice frames = nat_lt 1 (length frames)

abbrev pub first_or : List ℕ → ℕ → ℕ
first_or [] other = other
first_or (frame ∷ rest) other = frame

-- the frame function; of several the one that chooses, which stands behind so many functions
abbrev pub root_of : List ℕ → ℕ → ℕ
root_of frames count = if has_choice frames then count else first_or frames count

abbrev pub init_of : List FunctionInfo → Option (List ℕ) → Option ℕ
init_of functions None = None
init_of functions (Some name) = entry_of functions name

-- the calls of each function, and behind them those of the function that chooses
abbrev pub calls_of : Source → List ℕ → List (List CallPlace) → List (List CallPlace)
calls_of unit frames calls =
    if has_choice frames then calls ++ call_places (definitions_in unit.items) frames ∷ [] else calls

unfoldable pub plan_of : Source → Spec → List FunctionInfo → List (List CallPlace) → Plan
plan_of unit spec functions calls =
    record {
      calls = calls_of unit (entries_of functions spec.frames) calls;
      init = init_of functions spec.init;
      frames = entries_of functions spec.frames;
      root = root_of (entries_of functions spec.frames) (length functions);
    }

abbrev pub init_size : List ℕ → Option ℕ → ℕ → ℕ
init_size sizes None size = size
init_size sizes (Some init) size = plus (size_at sizes init) size

-- the number of all instances
abbrev pub total_of : List ℕ → Plan → ℕ
total_of sizes plan = init_size sizes plan.init (size_at sizes plan.root)

-- with the instances of a function that nobody calls at the end
abbrev pub with_instance : List (List CallPlace) → Option ℕ → List InstanceInfo → List InstanceInfo
with_instance calls None made = made
with_instance calls (Some function) made = grown (length calls) calls (root_instance function) made

abbrev pub first_number : Option ℕ → Option ℕ
first_number None = None
first_number (Some init) = Some 0

-- init's instances first
unfoldable pub laid_of : Plan → Laid
laid_of plan =
    record {
      instances = with_instance plan.calls (Some plan.root) (with_instance plan.calls plan.init []);
      init = first_number plan.init;
      frame = length (with_instance plan.calls plan.init []);
    }
