-- What reading a source to its end, and writing bytes whole, do to the bytes that are known of a reader and a writer.
use Rattle.std.specs.Prelude.{◌≡◌, ℕ, ◌<◌, ◌≤◌, List, length, take, Vec, Option, IfSome, Result, Ok, Err}
use Rattle.std.specs.Io.KnownBytes.{Appends}
use Rattle.std.specs.declared.alloc.Global.{Global}
use Rattle.wm_files.specs.declared.outside.ReadFault.{ReadFault}
use Rattle.wm_files.specs.declared.outside.ReadFault.TheVariants as reading
use Rattle.wm_files.specs.declared.outside.WriteFault.{WriteFault}
use Rattle.wm_files.specs.declared.outside.WriteFault.TheVariants as writing

-- what each answer says, where the bytes that the reader has left are known: all of them, or more than the limit
abbrev pub ReadsAll : Option (List ℕ) → ℕ → Result (Vec ℕ Global) ReadFault → Type 0
ReadsAll left limit (Ok bytes) = (length bytes.items ≤ limit) × IfSome left (λ all. bytes.items ≡ all)
ReadsAll left limit (Err reading.NotHeld) = ⊥
ReadsAll left limit (Err reading.Failed) = Unit {0}
ReadsAll left limit (Err reading.TooLong) = IfSome left (λ all. limit < length all)
ReadsAll left limit (Err reading.NoMemory) = Unit {0}

-- what each answer says, where the bytes that the writer holds are known: it has all bytes more, or a prefix of them
abbrev pub WritesAll : {T : Type 0} → Option (List ℕ) → Option (List ℕ) → List ℕ → Result T WriteFault → Type 0
WritesAll before after bytes (Ok _) = Appends before after bytes
WritesAll before after bytes (Err writing.Failed) = (k : ℕ) × Appends before after (take k bytes)
WritesAll before after bytes (Err writing.NoMemory) = ⊥
