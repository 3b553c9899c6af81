-- The faults before and behind the instances, in their order.
use Rattle.std.specs.Prelude.{ℕ, Bool, not, if◌then◌else◌, ◌==◌, nat_lt, List, Option, Some, None}
use Rattle.std.specs.Option.{option_map}
use Rattle.wm_lang.specs.declared.place.Position.{Position}
use Rattle.wm_program.specs.declared.faults.LinkFault.{LinkFault}
use Rattle.wm_program.specs.declared.faults.LinkFault.TheVariants.{Recursion, NoFrame, NoInit, BadInput, TooMany}
use Rattle.wm_program.specs.declared.faults.What.TheVariants as what
use Rattle.wm_program.specs.declared.program.FunctionInfo.{FunctionInfo}
use Rattle.wm_program.specs.declared.program.ObjectInfo.{ObjectInfo}
use Rattle.wm_program.specs.declared.spec.Spec.{Spec}
use Rattle.wm_scope.specs.declared.fault.Found.{Found}
use Rattle.wm_scope.specs.Faults.{rank, fault_at}
use Rattle.wm_inputs.specs.Entries.{entry_of, missing_entry}
use Rattle.wm_inputs.specs.Ranges.{bad_range}

-- a fault comes before a call in a circle at this token
abbrev pub is_earlier : Found → ℕ → Bool
is_earlier found token = if found.token == token then nat_lt (rank found.fault) 9 else nat_lt found.token token

-- the first of the least fault of the names and the first call in a circle
abbrev pub token_fault : Option Found → Option Position → Option LinkFault
token_fault None None = None
token_fault None (Some at) = Some (Recursion at.token)
token_fault (Some found) None = Some (fault_at found.fault found.token)
token_fault (Some found) (Some at) =
    if is_earlier found at.token then Some (fault_at found.fault found.token) else Some (Recursion at.token)

abbrev pub frame_fault : List FunctionInfo → Spec → Option LinkFault
frame_fault functions spec = option_map NoFrame (missing_entry functions spec.frames)

abbrev pub init_missing : List ℕ → Option ℕ → Option LinkFault
init_missing name None = Some (NoInit name)
init_missing name (Some k) = None

abbrev pub init_fault : List FunctionInfo → Option (List ℕ) → Option LinkFault
init_fault functions None = None
init_fault functions (Some name) = init_missing name (entry_of functions name)

abbrev pub range_fault : List ObjectInfo → Spec → Option LinkFault
range_fault objects spec = option_map BadInput (bad_range objects spec.ranges)

abbrev pub or_fault : Option LinkFault → Option LinkFault → Option LinkFault
or_fault None other = other
or_fault (Some fault) other = Some fault

abbrev pub spec_fault : List FunctionInfo → List ObjectInfo → Spec → Option LinkFault
spec_fault functions objects spec =
    or_fault (frame_fault functions spec) (or_fault (init_fault functions spec.init) (range_fault objects spec))

-- the first limit that is passed, behind that of instances
abbrev pub limit_fault : ℕ → ℕ → Bool → Bool → Option LinkFault
limit_fault heads size has_constants exceeds_steps =
    if nat_lt 2048 heads then Some (TooMany what.Heads)
    else (if nat_lt 100000 size then Some (TooMany what.Size)
    else (if not has_constants then Some (TooMany what.Constants)
    else (if exceeds_steps then Some (TooMany what.Steps) else None)))
