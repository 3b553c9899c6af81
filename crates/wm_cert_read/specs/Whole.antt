-- A whole text: its heads, or the number of the first line through which it begins no text, from 1.
use Rattle.std.specs.Prelude.{◌≡◌, ℕ, ◌+◌, suc, Bool, true, false, if◌then◌else◌, ◌==◌, nat_lt, List, [], ◌∷◌, take, drop, length, Option, Some, None, Result, Ok, Err}
use Rattle.wm_cert_text.specs.declared.told.Head.{Head}
use Rattle.wm_cert_text.specs.declared.told.HeadName.{HeadName}
use Rattle.wm_cert_lines.specs.declared.items.Item.{Item}
use Rattle.wm_cert_lines.specs.declared.items.Item.TheVariants as item
use Rattle.wm_cert_lines.specs.Forms.{item_of}
use Rattle.wm_cert_read.specs.declared.reading.Reading.{Reading}
use Rattle.wm_cert_read.specs.declared.reading.Step.{Step}
use Rattle.wm_cert_read.specs.declared.reading.Step.TheVariants as step
use Rattle.wm_cert_read.specs.declared.fault.TextFault.{TextFault}
use Rattle.wm_cert_read.specs.declared.fault.TextFault.TheVariants as fault
use Rattle.wm_cert_read.specs.Steps.{begun, heads_of, lacks_sums, after, may_end}

-- ---- lines

-- how many bytes stand before the first line feed
abbrev pub line_length : List ℕ → ℕ
line_length [] = 0
line_length (b ∷ bs) = if b == 10 then 0 else suc (line_length bs)

-- what the first line tells, where its line feed is there
unfoldable pub first_item : List ℕ → Option Item
first_item text = if nat_lt (line_length text) (length text) then item_of (take (line_length text) text) else None

unfoldable pub behind_line : List ℕ → List ℕ
behind_line text = drop (suc (line_length text)) text

-- ---- the lines behind the first head's

abbrev pub is_end : Option Item → Bool
is_end None = false
is_end (Some (item.Version second)) = false
is_end (Some (item.Heads last)) = false
is_end (Some (item.Head head name)) = false
is_end (Some (item.Sum sum)) = false
is_end (Some item.Empty) = false
is_end (Some (item.Bound variable ends)) = false
is_end (Some (item.Pair pair)) = false
is_end (Some (item.Array array held)) = false
is_end (Some item.End) = true

-- the last line, which stands at the end of the text
unfoldable pub finished : Reading → (line : ℕ) → (behind : List ℕ) → Step
finished r line behind =
    if may_end r then (if length behind == 0 then step.Done (heads_of r) else step.Fault (line + 1)) else step.Fault line

abbrev pub moved_to : Option Reading → (line : ℕ) → Step
moved_to None line = step.Fault line
moved_to (Some next) line = step.Next next

abbrev pub moved : Reading → (line : ℕ) → Option Item → Step
moved r line None = step.Fault line
moved r line (Some it) = moved_to (after r it) line

-- one more line
unfoldable pub stepped : Reading → (line : ℕ) → List ℕ → Step
stepped r line text =
    if is_end (first_item text) then finished r line (behind_line text) else moved r line (first_item text)

abbrev pub continued : Step → (Reading → Result (List Head) ℕ) → Result (List Head) ℕ
continued (step.Done heads) next = Ok heads
continued (step.Fault line) next = Err line
continued (step.Next r) next = next r

-- A text has no more lines than bytes, so that its bytes count out the lines.
abbrev pub read_from : (bytes : List ℕ) → Reading → (line : ℕ) → List ℕ → Result (List Head) ℕ
read_from [] r line text = Err line
read_from (b ∷ bytes) r line text =
    continued (stepped r line text) (λ next. read_from bytes next (line + 1) (behind_line text))

-- ---- the first three lines

unfoldable pub from_head : (pairs_allowed second : Bool) → (last head : ℕ) → HeadName → List ℕ → Result (List Head) ℕ
from_head pairs_allowed second last head name behind =
    if head == 0 then (if lacks_sums second last false head name then Err 3 else read_from behind (begun pairs_allowed second last false [] name) 4 behind) else Err 3

abbrev pub from_third : (pairs_allowed second : Bool) → (last : ℕ) → Option Item → List ℕ → Result (List Head) ℕ
from_third pairs_allowed second last None behind = Err 3
from_third pairs_allowed second last (Some (item.Version it)) behind = Err 3
from_third pairs_allowed second last (Some (item.Heads it)) behind = Err 3
from_third pairs_allowed second last (Some (item.Head head name)) behind = from_head pairs_allowed second last head name behind
from_third pairs_allowed second last (Some (item.Sum sum)) behind = Err 3
from_third pairs_allowed second last (Some item.Empty) behind = Err 3
from_third pairs_allowed second last (Some (item.Bound variable ends)) behind = Err 3
from_third pairs_allowed second last (Some (item.Pair pair)) behind = Err 3
from_third pairs_allowed second last (Some (item.Array array held)) behind = Err 3
from_third pairs_allowed second last (Some item.End) behind = Err 3

abbrev pub from_second : (pairs_allowed second : Bool) → Option Item → List ℕ → Result (List Head) ℕ
from_second pairs_allowed second None behind = Err 2
from_second pairs_allowed second (Some (item.Version it)) behind = Err 2
from_second pairs_allowed second (Some (item.Heads last)) behind =
    from_third pairs_allowed second last (first_item behind) (behind_line behind)
from_second pairs_allowed second (Some (item.Head head name)) behind = Err 2
from_second pairs_allowed second (Some (item.Sum sum)) behind = Err 2
from_second pairs_allowed second (Some item.Empty) behind = Err 2
from_second pairs_allowed second (Some (item.Bound variable ends)) behind = Err 2
from_second pairs_allowed second (Some (item.Pair pair)) behind = Err 2
from_second pairs_allowed second (Some (item.Array array held)) behind = Err 2
from_second pairs_allowed second (Some item.End) behind = Err 2

-- texts with sum counters are read where pairs are
abbrev pub from_version : (pairs_allowed second : Bool) → List ℕ → Result (List Head) ℕ
from_version pairs_allowed true behind = if pairs_allowed then from_second pairs_allowed true (first_item behind) (behind_line behind) else Err 1
from_version pairs_allowed false behind = from_second pairs_allowed false (first_item behind) (behind_line behind)

abbrev pub from_first : (pairs_allowed : Bool) → Option Item → List ℕ → Result (List Head) ℕ
from_first pairs_allowed None behind = Err 1
from_first pairs_allowed (Some (item.Version second)) behind = from_version pairs_allowed second behind
from_first pairs_allowed (Some (item.Heads last)) behind = Err 1
from_first pairs_allowed (Some (item.Head head name)) behind = Err 1
from_first pairs_allowed (Some (item.Sum sum)) behind = Err 1
from_first pairs_allowed (Some item.Empty) behind = Err 1
from_first pairs_allowed (Some (item.Bound variable ends)) behind = Err 1
from_first pairs_allowed (Some (item.Pair pair)) behind = Err 1
from_first pairs_allowed (Some (item.Array array held)) behind = Err 1
from_first pairs_allowed (Some item.End) behind = Err 1

abbrev pub read : (pairs_allowed : Bool) → List ℕ → Result (List Head) ℕ
read pairs_allowed text = from_first pairs_allowed (first_item text) (behind_line text)

-- ---- the answer of a reader, which may want memory

abbrev pub Reads : Result (List Head) TextFault → Result (List Head) ℕ → Type 0
Reads (Ok heads) answer = answer ≡ Ok heads
Reads (Err (fault.BadText line)) answer = answer ≡ Err line
Reads (Err fault.NoMemory) answer = Unit {0}
