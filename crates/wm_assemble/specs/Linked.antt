-- What is made of two ways through a unit: the program, or the first fault.
use Rattle.std.specs.Prelude.{ℕ, ℤ, nat_lt, nat_le, if◌then◌else◌, List, [], ◌∷◌, ◌++◌, length, Option, Some, None, Result, Ok, Err}
use Rattle.wm_lang.specs.declared.unit.Unit.{Unit as Source}
use Rattle.wm_program.specs.declared.faults.LinkFault.{LinkFault}
use Rattle.wm_program.specs.declared.faults.LinkFault.TheVariants.{TooMany}
use Rattle.wm_program.specs.declared.faults.What.TheVariants as what
use Rattle.wm_program.specs.declared.program.FunctionInfo.{FunctionInfo}
use Rattle.wm_program.specs.declared.program.InputInfo.{InputInfo}
use Rattle.wm_program.specs.declared.program.LoopInfo.{LoopInfo}
use Rattle.wm_program.specs.declared.program.ObjectInfo.{ObjectInfo}
use Rattle.wm_program.specs.declared.program.Program.{Program}
use Rattle.wm_program.specs.declared.spec.Spec.{Spec}
use Rattle.wm_scope.specs.declared.reading.Reading.{Reading}
use Rattle.wm_calls.specs.Recursion.{recursion_of}
use Rattle.wm_calls.specs.Sizes.{sizes_of, offsets_of}
use Rattle.wm_inputs.specs.Called.{call_input}
use Rattle.wm_inputs.specs.Chooser.{call_object, chooser}
use Rattle.wm_inputs.specs.Ranges.{marked_objects, inputs_of as given_inputs}
use Rattle.wm_instances.specs.Constants.{constants_of}
use Rattle.wm_instances.specs.Totals.{heads_of, size_of, exceeds_steps}
use Rattle.wm_assemble.specs.declared.plan.Plan.{Plan}
use Rattle.wm_assemble.specs.declared.plan.Laid.{Laid}
use Rattle.wm_assemble.specs.declared.plan.Started.{Started}
use Rattle.wm_assemble.specs.Faults.{or_fault, token_fault, spec_fault, limit_fault}
use Rattle.wm_assemble.specs.Plans.{has_choice, plan_of, total_of, laid_of}

-- ---- the program

-- the functions, and behind them the one that chooses by the object of this number
abbrev pub functions_of : ℕ → List ℕ → List ℕ → List FunctionInfo → List FunctionInfo
functions_of call sizes frames functions =
    if has_choice frames then functions ++ chooser call sizes frames ∷ [] else functions

-- the objects with the inputs marked, and behind them `call` where there are several frame functions
abbrev pub objects_of : Spec → List ℕ → List ObjectInfo → List ObjectInfo
objects_of spec frames objects =
    if has_choice frames then marked_objects spec.ranges objects ++ call_object ∷ [] else marked_objects spec.ranges objects

abbrev pub with_call : ℕ → List ℕ → List InputInfo → List InputInfo
with_call call frames inputs = if has_choice frames then inputs ++ call_input call frames ∷ [] else inputs

-- the inputs, `call` before the others where there are several frame functions
abbrev pub inputs_of : ℕ → Spec → List ℕ → List ObjectInfo → List InputInfo
inputs_of call spec frames objects = given_inputs objects spec.ranges spec.pack (with_call call frames [])

-- of what a first way through the unit tells, and of a second one, which knew where the instances of calls stand
unfoldable pub finished : Spec → Started → Reading → Program
finished spec started reading =
    record {
      functions = functions_of (length reading.objects) started.sizes started.frames reading.functions;
      objects = objects_of spec started.frames reading.objects;
      sites = reading.sites;
      loops = reading.loops;
      instances = started.laid.instances;
      inputs = inputs_of (length reading.objects) spec started.frames reading.objects;
      constants = started.constants;
      init = started.laid.init;
      frame = started.laid.frame;
    }

-- ---- faults before it

abbrev pub unless : Option LinkFault → Result Started LinkFault → Result Started LinkFault
unless None stands = stands
unless (Some fault) stands = Err fault

-- the first limit that is passed, behind that of instances
abbrev pub laid_fault : List FunctionInfo → List LoopInfo → Laid → List ℤ → Option LinkFault
laid_fault functions loops laid constants =
    limit_fault (heads_of loops laid.instances) (size_of functions laid.instances) (nat_le (length constants) 4096) (exceeds_steps 16 loops)

unfoldable pub gathered : Plan → List ℕ → Laid → List ℤ → Started
gathered plan sizes laid constants =
    record { laid = laid; frames = plan.frames; sizes = sizes; offsets = offsets_of sizes plan.calls; constants = constants }

unfoldable pub counted : Source → List FunctionInfo → List LoopInfo → Plan → List ℕ → Result Started LinkFault
counted unit functions loops plan sizes =
    unless (laid_fault functions loops (laid_of plan) (constants_of unit.items)) (Ok (gathered plan sizes (laid_of plan) (constants_of unit.items)))

abbrev pub unless_many : ℕ → Result Started LinkFault → Result Started LinkFault
unless_many total stands = if nat_lt 1024 total then Err (TooMany what.Instances) else stands

unfoldable pub planned : Source → List FunctionInfo → List LoopInfo → Plan → Result Started LinkFault
planned unit functions loops plan =
    unless_many (total_of (sizes_of plan.calls) plan) (counted unit functions loops plan (sizes_of plan.calls))

-- the first fault at a token or in the specification
unfoldable pub early_fault : Spec → Reading → Option LinkFault
early_fault spec reading =
    or_fault (token_fault reading.least (recursion_of reading.calls)) (spec_fault reading.functions reading.objects spec)

-- what is made of a first way through the unit
unfoldable pub started : Source → Spec → Reading → Result Started LinkFault
started unit spec reading =
    unless (early_fault spec reading)
    (planned unit reading.functions reading.loops (plan_of unit spec reading.functions reading.calls))
