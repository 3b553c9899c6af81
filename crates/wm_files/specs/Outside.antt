-- What the files and the sink that a caller hands in mean: what they hold, and how often they failed.
use Rattle.std.specs.Prelude.{◌≡◌, ◌⊎◌, ℕ, ◌-◌, ◌^◌, ◌<◌, ◌≤◌, List, ◌++◌, length, take, Vec, Option, Some, None, option_map, IfSome, IsSomeAnd, Result, Ok, Err}
use Rattle.std.specs.Ordering.{nat_cmp}
use Rattle.std.specs.Cmp.Lexicographic.{slice_cmp}
use Rattle.std.specs.FinMap.{FinMap, get, insert}
use Rattle.std.specs.declared.alloc.Global.{Global}
use Rattle.wm_files.specs.declared.outside.ReadFault.{ReadFault}
use Rattle.wm_files.specs.declared.outside.ReadFault.TheVariants as reading
use Rattle.wm_files.specs.declared.outside.WriteFault.{WriteFault}
use Rattle.wm_files.specs.declared.outside.WriteFault.TheVariants as writing

-- the bytes under each name that is held
abbrev pub Held : Type 0
Held = FinMap (slice_cmp nat_cmp) (List ℕ)

-- a count of faults rose: it is greater than before, or stands at its greatest number
abbrev pub Rose : ℕ → ℕ → Type 0
Rose old new = (old < new) ⊎ (new ≡ 2 ^ 64 - 1)

-- what is held once the name holds these bytes, where that is told; other names keep theirs
abbrev pub with_bytes : Option Held → List ℕ → List ℕ → Option Held
with_bytes held name bytes = option_map (λ pairs. insert pairs name bytes) held

-- what each answer of a read says of what is held, and of the count of faults before and after it
abbrev pub Reads : Option Held → List ℕ → ℕ → ℕ → ℕ → Result (Vec ℕ Global) ReadFault → Type 0
Reads held name limit old new (Ok bytes) = (length bytes.items ≤ limit) × IfSome held (λ pairs. get pairs name ≡ Some bytes.items)
Reads held name limit old new (Err reading.NotHeld) = IsSomeAnd held (λ pairs. get pairs name ≡ None) × (new ≡ old)
Reads held name limit old new (Err reading.Failed) = Rose old new
Reads held name limit old new (Err reading.TooLong) = IfSome held (λ pairs. IsSomeAnd (get pairs name) (λ bytes. limit < length bytes) × (new ≡ old))
Reads held name limit old new (Err reading.NoMemory) = Unit {0}

-- what is held once a write of these bytes was cut short: what was held, or a prefix of the bytes under the name
abbrev pub CutShort : Option Held → Option Held → List ℕ → List ℕ → Type 0
CutShort before after name bytes = (after ≡ before) ⊎ ((k : ℕ) × (after ≡ with_bytes before name (take k bytes)))

-- what each answer of a write says of what is held before and after it, and of the count of faults
abbrev pub Writes : {T : Type 0} → Option Held → Option Held → List ℕ → List ℕ → ℕ → ℕ → Result T WriteFault → Type 0
Writes before after name bytes old new (Ok _) = after ≡ with_bytes before name bytes
Writes before after name bytes old new (Err writing.Failed) = Rose old new × CutShort before after name bytes
Writes before after name bytes old new (Err writing.NoMemory) = after ≡ before

-- what is written once these bytes came to it, where that is told
abbrev pub grown : Option (List ℕ) → List ℕ → Option (List ℕ)
grown written bytes = option_map (λ before. before ++ bytes) written

-- what each answer of a put says of what is written before and after it, and of the count of faults
abbrev pub Puts : {T : Type 0} → Option (List ℕ) → Option (List ℕ) → List ℕ → ℕ → ℕ → Result T WriteFault → Type 0
Puts before after bytes old new (Ok _) = after ≡ grown before bytes
Puts before after bytes old new (Err writing.Failed) = Rose old new × ((k : ℕ) × (after ≡ grown before (take k bytes)))
Puts before after bytes old new (Err writing.NoMemory) = after ≡ before
