-- What a reading of files asks for, one file after the other, and what it comes to.
use Rattle.std.specs.Prelude.{◌≡◌, ◌⊎◌, ℕ, ◌<◌, ◌≤◌, List, length, nat_lt, if◌then◌else◌, Option, Some, None, IfSome, IsSomeAnd, Result, Ok, Err}
use Rattle.std.specs.FinMap.{get}
use Rattle.wm_files.specs.Outside.{Held, Rose}
use Rattle.wm_report.specs.declared.fault.RunFault.{RunFault}
use Rattle.wm_report.specs.declared.fault.RunFault.TheVariants.{Memory}

-- what a read of a file gives: its bytes, too many of them, or nothing
pub data Read : Type 0 where
  Bytes : List ℕ → Read
  TooLong : Read
  Failed : Read

-- An end, or a question for the file of a name with the greatest number of bytes that it may have, and what is asked
-- behind each answer.
pub data Asking (A : Type 0) : Type 0 where
  Done : A → Asking A
  Ask : (name : List ℕ) → (limit : ℕ) → (Read → Asking A) → Asking A

-- one thing, and then another with what it came to
infixl 10 ◌>>=◌
abbrev pub ◌>>=◌ : {A B : Type 0} → Asking (Result A RunFault) → (A → Asking (Result B RunFault)) → Asking (Result B RunFault)
(Done (Ok x)) >>= go = go x
(Done (Err fault)) >>= go = Done (Err fault)
(Ask name limit next) >>= go = Ask name limit (λ read. next read >>= go)

-- what a read that gives this says of what is held, and of the count of faults before and after it
abbrev pub ReadGives : Option Held → ℕ → ℕ → List ℕ → ℕ → Read → Type 0
ReadGives held old new name limit (Bytes bytes) = (length bytes ≤ limit) × IfSome held (λ pairs. get pairs name ≡ Some bytes)
ReadGives held old new name limit TooLong = IfSome held (λ pairs. IsSomeAnd (get pairs name) (λ bytes. limit < length bytes))
ReadGives held old new name limit Failed = Rose old new ⊎ IsSomeAnd held (λ pairs. get pairs name ≡ None)

-- The files, and the count of faults before and after all reads, lead to this: there are reads of these files that give
-- it.
unfoldable pub Leads : {A : Type 0} → Option Held → ℕ → ℕ → Asking A → A → Type 0
Leads held old new (Done x) result = result ≡ x
Leads held old new (Ask name limit next) result =
    (read : Read) × ReadGives held old new name limit read × Leads held old new (next read) result

-- ---- files that tell what they hold, and do not fail, leave one result

abbrev pub told_read : ℕ → Option (List ℕ) → Read
told_read limit None = Failed
told_read limit (Some bytes) = if nat_lt limit (length bytes) then TooLong else Bytes bytes

-- what is read under a name
abbrev pub read_in : Held → List ℕ → ℕ → Read
read_in pairs name limit = told_read limit (get pairs name)

unfoldable pub told : {A : Type 0} → Held → Asking A → A
told pairs (Done x) = x
told pairs (Ask name limit next) = told pairs (next (read_in pairs name limit))

-- ---- what a call answers

-- it is this fault, or memory ran out
abbrev pub IsFault : RunFault → RunFault → Type 0
IsFault found fault = (found ≡ Memory) ⊎ (found ≡ fault)

-- the answer, seen by view, is this one, but memory may run out
abbrev pub Finds : {X A : Type 0} → (X → A) → Result X RunFault → Result A RunFault → Type 0
Finds view (Ok x) answer = answer ≡ Ok (view x)
Finds view (Err fault) answer = (fault ≡ Memory) ⊎ (answer ≡ Err fault)

-- the same of an answer to which the files lead
abbrev pub Reads : {X A : Type 0} → (X → A) → Option Held → ℕ → ℕ → Asking (Result A RunFault) → Result X RunFault → Type 0
Reads view held old new asked (Ok x) = Leads held old new asked (Ok (view x))
Reads view held old new asked (Err fault) = (fault ≡ Memory) ⊎ Leads held old new asked (Err fault)
