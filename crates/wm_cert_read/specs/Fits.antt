-- When the lines of a head may follow what has been read.
use Rattle.std.specs.Prelude.{ℕ, ◌-◌, Bool, true, false, not, if◌then◌else◌, ◌==◌, nat_lt, List, [], ◌∷◌, length, Option, Some, None, slice_get}
use Rattle.wm_cert_text.specs.declared.told.Cells.{Cells}
use Rattle.wm_cert_text.specs.declared.told.Ends.{Ends}
use Rattle.wm_cert_text.specs.declared.told.HeadName.{HeadName}
use Rattle.wm_cert_text.specs.declared.told.HeadName.TheVariants as name
use Rattle.wm_cert_text.specs.declared.told.Pair.{Pair}
use Rattle.wm_cert_text.specs.declared.told.SumStep.{SumStep}
use Rattle.wm_cert_read.specs.declared.reading.Reading.{Reading}
use Rattle.wm_cert_read.specs.Pairs.{fits_pair}

abbrev pub is_loop : HeadName → Bool
is_loop name.Frame = false
is_loop (name.Loop loop_id instance) = true

-- the head stands alone, or with its sum counters
unfoldable pub is_bare : Reading → Bool
is_bare r = if r.empty then false else if length r.bounds == 0 then length r.arrays == 0 else false

-- a text of the second version has a sum counter at the latest at its last head
unfoldable pub owes_sum : Reading → Bool
owes_sum r = if r.second then (if r.has_sums then false else length r.heads == r.last) else false

abbrev pub is_behind : Option SumStep → SumStep → Bool
is_behind None sum = true
is_behind (Some last) sum = nat_lt last.variable sum.variable

-- at most four, in the order of their variables
unfoldable pub is_next_sum : List SumStep → SumStep → Bool
is_next_sum sums sum = if nat_lt (length sums) 4 then is_behind (slice_get sums (length sums - 1)) sum else false

unfoldable pub may_sum : Reading → SumStep → Bool
may_sum r sum =
    if r.second then (if is_loop r.name then (if is_bare r then is_next_sum r.sums sum else false) else false) else false

unfoldable pub may_empty : Reading → Bool
may_empty r = if owes_sum r then false else is_bare r

unfoldable pub may_bound : Reading → (variable : ℕ) → Bool
may_bound r variable =
    if owes_sum r then false
    else if r.empty then false
    else if length r.pairs == 0 then (if length r.arrays == 0 then variable == length r.bounds else false) else false

unfoldable pub may_pair : Reading → Pair → Bool
may_pair r pair =
    if r.pairs_allowed then (if length r.arrays == 0 then fits_pair r.bounds r.pairs pair else false) else false

unfoldable pub may_array : Reading → (array : ℕ) → Bool
may_array r array = if owes_sum r then false else if r.empty then false else array == length r.arrays
