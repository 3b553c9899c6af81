-- What the files and the sink in memory answer, and what they hold afterwards.
use Rattle.std.specs.Prelude.{◌≡◌, ℕ, true, false, if◌then◌else◌, nat_lt, List, ◌++◌, length, Vec, Option, Some, None, Result, Ok, Err, IsOk, refl}
use Rattle.std.specs.FinMap.{get, insert}
use Rattle.std.specs.FinMap as map
use Rattle.std.specs.Coded.{Coded, code_by, coded×, coded_ℕ, coded_list}
use Rattle.std.specs.declared.alloc.Global.{Global}
use Rattle.wm_files.specs.Outside.{Held}
use Rattle.wm_files.specs.Plan.{Plan, plan_code, next_fails, after_call}
use Rattle.wm_files.specs.declared.outside.ReadFault.{ReadFault}
use Rattle.wm_files.specs.declared.outside.ReadFault.TheVariants as reading
use Rattle.wm_files.specs.declared.outside.WriteFault.{WriteFault}
use Rattle.wm_files.specs.declared.outside.WriteFault.TheVariants as writing

-- files in memory: the pairs that are held, and the calls
pub record Memory : Type 0 where
  pub held : Held
  pub plan : Plan

-- they are stored as the pair of their fields
abbrev pub memory_code : Coded Memory
memory_code =
    code_by (Held × Plan) (coded× (map.code (coded_list coded_ℕ) (coded_list coded_ℕ)) plan_code) (λ m. (m.held, m.plan)) (λ p. record { held = p.0; plan = p.1 }) (λ _. refl)

-- the files once a call was made that changed nothing else
abbrev pub counted : Memory → Memory
counted m = record { held = m.held; plan = after_call m.plan }

-- the files once a name was made to hold these bytes
abbrev pub holding : Memory → List ℕ → List ℕ → Memory
holding m name bytes = record { held = insert m.held name bytes; plan = m.plan }

-- what a read that does not fail answers, of what the name holds
abbrev pub found : Option (List ℕ) → ℕ → Result (List ℕ) ReadFault
found None limit = Err reading.NotHeld
found (Some bytes) limit = if nat_lt limit (length bytes) then Err reading.TooLong else Ok bytes

-- what a read answers
abbrev pub read_of : Memory → List ℕ → ℕ → Result (List ℕ) ReadFault
read_of m name limit = if next_fails m.plan then Err reading.Failed else found (get m.held name) limit

-- the answer is this one, but want of memory may stand in the place of an Ok
abbrev pub Gives : Result (Vec ℕ Global) ReadFault → Result (List ℕ) ReadFault → Type 0
Gives (Ok bytes) answer = answer ≡ Ok bytes.items
Gives (Err reading.NotHeld) answer = answer ≡ Err reading.NotHeld
Gives (Err reading.Failed) answer = answer ≡ Err reading.Failed
Gives (Err reading.TooLong) answer = answer ≡ Err reading.TooLong
Gives (Err reading.NoMemory) answer = IsOk answer

-- what each answer of a write says: it fails exactly where its call is listed, and then changes nothing but the calls
abbrev pub WritesPair : {T : Type 0} → Memory → Memory → List ℕ → List ℕ → Result T WriteFault → Type 0
WritesPair before after name bytes (Ok _) = (next_fails before.plan ≡ false) × (after ≡ holding (counted before) name bytes)
WritesPair before after name bytes (Err writing.Failed) = (next_fails before.plan ≡ true) × (after ≡ counted before)
WritesPair before after name bytes (Err writing.NoMemory) = (next_fails before.plan ≡ false) × (after ≡ counted before)

-- a sink in memory: what was written, and the calls
pub record Shelf : Type 0 where
  pub written : List ℕ
  pub plan : Plan

-- it is stored as the pair of its fields
abbrev pub shelf_code : Coded Shelf
shelf_code =
    code_by (List ℕ × Plan) (coded× (coded_list coded_ℕ) plan_code) (λ s. (s.written, s.plan)) (λ p. record { written = p.0; plan = p.1 }) (λ _. refl)

-- the sink once a call wrote these bytes
abbrev pub appended : Shelf → List ℕ → Shelf
appended s bytes = record { written = s.written ++ bytes; plan = after_call s.plan }

-- the sink once a call was made that wrote nothing
abbrev pub untouched : Shelf → Shelf
untouched s = record { written = s.written; plan = after_call s.plan }

-- what each answer of a put says: it fails exactly where its call is listed, and then writes nothing
abbrev pub PutsBytes : {T : Type 0} → Shelf → Shelf → List ℕ → Result T WriteFault → Type 0
PutsBytes before after bytes (Ok _) = (next_fails before.plan ≡ false) × (after ≡ appended before bytes)
PutsBytes before after bytes (Err writing.Failed) = (next_fails before.plan ≡ true) × (after ≡ untouched before)
PutsBytes before after bytes (Err writing.NoMemory) = (next_fails before.plan ≡ false) × (after ≡ untouched before)
