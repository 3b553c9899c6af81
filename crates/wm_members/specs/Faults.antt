-- The order of the faults: the least token first, at one token the first in the order of the kinds.
use Rattle.std.specs.Prelude.{ℕ, Bool, Option, Some, None, Result, Ok, Err, if◌then◌else◌, ◌==◌, nat_lt, ◌≡◌}
use Rattle.wm_members.specs.declared.fault.Kind.{Kind}
use Rattle.wm_members.specs.declared.fault.Kind.TheVariants as kind
use Rattle.wm_members.specs.declared.fault.Found.{Found}
use Rattle.wm_members.specs.declared.fault.StructFault.{StructFault}
use Rattle.wm_members.specs.declared.fault.StructFault.TheVariants.{NoStruct, StructTwice, StructSize, NoMember, StructKind, NoMemory}

abbrev pub rank : Kind → ℕ
rank kind.NoStruct = 0
rank kind.StructTwice = 1
rank kind.StructSize = 2
rank kind.NoMember = 3
rank kind.StructKind = 4

abbrev pub is_before : Found → Found → Bool
is_before a b = if a.token == b.token then nat_lt (rank a.kind) (rank b.kind) else nat_lt a.token b.token

-- the least of the faults so far and one more
abbrev pub with_fault : Found → Option Found → Found
with_fault f None = f
with_fault f (Some g) = if is_before f g then f else g

abbrev pub fault_at : Kind → ℕ → StructFault
fault_at kind.NoStruct token = NoStruct token
fault_at kind.StructTwice token = StructTwice token
fault_at kind.StructSize token = StructSize token
fault_at kind.NoMember token = NoMember token
fault_at kind.StructKind token = StructKind token

abbrev pub fault_of : Found → StructFault
fault_of f = fault_at f.kind f.token

-- what stands once all faults are known: the value, or the least fault
abbrev pub unless : {A : Type 0} → A → Option Found → Result A StructFault
unless a None = Ok a
unless a (Some f) = Err (fault_of f)

-- what was answered is what stands, unless memory was refused
abbrev pub Refuses : {A : Type 0} → StructFault → Result A StructFault → Type 0
Refuses NoMemory stands = Unit {0}
Refuses fault stands = stands ≡ Err fault

abbrev pub Answers : {A : Type 0} → Result A StructFault → Result A StructFault → Type 0
Answers (Ok a) stands = stands ≡ Ok a
Answers (Err fault) stands = Refuses fault stands
