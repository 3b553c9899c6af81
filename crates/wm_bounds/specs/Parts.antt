-- The instances of each frame function, and the edges that are live while its frames run.
use Rattle.std.specs.Prelude.{ℕ, suc, Bool, true, false, not, if◌then◌else◌, ◌==◌, nat_lt, List, [], ◌∷◌, ◌++◌, Option, Some, None, slice_get, slice_index_or}
use Rattle.wm_program.specs.declared.program.Program.{Program}
use Rattle.wm_program.specs.declared.program.FunctionInfo.{FunctionInfo}
use Rattle.wm_program.specs.declared.program.InstanceInfo.{InstanceInfo}
use Rattle.wm_flow.specs.declared.graph.Edge.{Edge}
use Rattle.wm_flow.specs.declared.graph.Graph.{Graph}
use Rattle.wm_bounds.specs.declared.parts.Part.{Part}

-- ---- the parts

-- the function that chooses among several frame functions alone has no tokens
abbrev pub has_no_tokens : Option FunctionInfo → Bool
has_no_tokens None = false
has_no_tokens (Some function) = function.tokens == 0

abbrev pub chooses : List FunctionInfo → Option InstanceInfo → Bool
chooses functions None = false
chooses functions (Some info) = has_no_tokens (slice_get functions info.function)

abbrev pub is_choosing : Program → Bool
is_choosing program = chooses program.functions (slice_get program.instances program.frame)

abbrev pub is_called_by : (frame : ℕ) → (caller : Option ℕ) → Bool
is_called_by frame None = false
is_called_by frame (Some caller) = caller == frame

-- the numbers of the instances that the frame calls itself; the first of the list has the number `number`
abbrev pub firsts_from : (frame number : ℕ) → List InstanceInfo → List ℕ
firsts_from frame number [] = []
firsts_from frame number (info ∷ rest) =
    (if is_called_by frame info.caller then number ∷ [] else []) ++ firsts_from frame (suc number) rest

-- an instance that the frame calls and all behind it up to the next one; no instance has the number 4294967295
abbrev pub parts_from : (frame : ℕ) → (firsts : List ℕ) → (k : ℕ) → List ℕ → List Part
parts_from frame firsts k [] = []
parts_from frame firsts k (first ∷ rest) =
    record { frame = frame; first = first; end = slice_index_or firsts (suc k) 4294967295 } ∷ parts_from frame firsts (suc k) rest

abbrev pub parts_called : Program → List Part
parts_called program =
    parts_from program.frame (firsts_from program.frame 0 program.instances) 0 (firsts_from program.frame 0 program.instances)

-- of a program with one frame function its whole frame
abbrev pub parts_of : Program → List Part
parts_of program =
    if is_choosing program then parts_called program
    else record { frame = program.frame; first = program.frame; end = 4294967295 } ∷ []

-- ---- the live edges of a part

-- an instance behind the frame that is none of the part
abbrev pub is_foreign : Part → Option ℕ → Bool
is_foreign part None = false
is_foreign part (Some instance) =
    if nat_lt part.frame instance then (if nat_lt instance part.first then true else not (nat_lt instance part.end)) else false

abbrev pub instance_of : Option (Option ℕ) → Option ℕ
instance_of None = None
instance_of (Some instance) = instance

abbrev pub instance_at : Graph → ℕ → Option ℕ
instance_at graph node = instance_of (slice_get graph.node_instance node)

abbrev pub is_live : Graph → Part → Edge → Bool → Bool
is_live graph part edge live =
    if is_foreign part (instance_at graph edge.source) then false
    else (if is_foreign part (instance_at graph edge.target) then false else live)

-- the edges from a number on
abbrev pub lives_from : Graph → Part → (live : List Bool) → (number : ℕ) → List Edge → List Bool
lives_from graph part live number [] = []
lives_from graph part live number (edge ∷ rest) =
    is_live graph part edge (slice_index_or live number false) ∷ lives_from graph part live (suc number) rest

abbrev pub lives_in : Graph → Part → List Bool → List Bool
lives_in graph part live = lives_from graph part live 0 graph.edges
