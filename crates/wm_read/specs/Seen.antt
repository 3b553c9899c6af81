-- What was read, without where it lies in memory.
use Rattle.std.specs.Prelude.{ℕ, ◌≤◌, List, length, map, ⊤, Vec}
use Rattle.std.specs.declared.alloc.Global.{Global}
use Rattle.wm_read.specs.declared.input.Input.{Input}
use Rattle.wm_read.specs.declared.input.Input.TheVariants as input
use Rattle.wm_read.specs.Asking.{Read, Bytes, TooLong, Failed}

abbrev pub read_of : Input → Read
read_of (input.Bytes bytes) = Bytes bytes.items
read_of input.TooLong = TooLong
read_of input.Failed = Failed

-- no more bytes than the limit
abbrev pub IsShort : ℕ → Read → Type 0
IsShort limit (Bytes bytes) = length bytes ≤ limit
IsShort limit TooLong = ⊤
IsShort limit Failed = ⊤

-- as it is
abbrev pub same : {A : Type 0} → A → A
same x = x

abbrev pub bytes_of : Vec ℕ Global → List ℕ
bytes_of text = text.items

abbrev pub texts_of : List (Vec ℕ Global) → List (List ℕ)
texts_of texts = map bytes_of texts
