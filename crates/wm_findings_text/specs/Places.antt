-- Where something stands in a report: a place in a source, and the calls that lead to an instance.
use Rattle.std.specs.Prelude.{ℕ, zero, suc, Bool, List, [], ◌++◌, length, Option, Some, None, codes, decimal, slice_get, if◌then◌else◌, ◌==◌}
use Rattle.wm_lang.specs.declared.place.Place.{Place}
use Rattle.wm_program.specs.declared.program.InstanceInfo.{InstanceInfo}

-- the name of a source; none where there is no source of this number
abbrev pub name_in : Option (List ℕ) → List ℕ
name_in None = []
name_in (Some name) = name

-- FILE:LINE:COLUMN
unfoldable pub place_text : List (List ℕ) → Place → List ℕ
place_text sources place =
    name_in (slice_get sources place.file) ++ codes ":" ++ decimal place.line ++ codes ":" ++ decimal place.column

-- a call with a space before it; an instance at a root has none
abbrev pub call_text : List (List ℕ) → Option Place → List ℕ
call_text sources None = []
call_text sources (Some place) = codes " " ++ place_text sources place

-- the instance that calls an instance
abbrev pub caller_in : Option InstanceInfo → Option ℕ
caller_in None = None
caller_in (Some it) = it.caller

abbrev pub call_in : Option InstanceInfo → Option Place
call_in None = None
call_in (Some it) = it.call

-- the calls that lead to an instance, from its root inwards; no chain of calls has more than `levels` of them
unfoldable pub calls_to : List (List ℕ) → List InstanceInfo → (levels : ℕ) → Option ℕ → List ℕ
calls_to sources instances levels None = []
calls_to sources instances zero (Some instance) = []
calls_to sources instances (suc levels) (Some instance) =
    calls_to sources instances levels (caller_in (slice_get instances instance))
    ++ call_text sources (call_in (slice_get instances instance))

-- the root of an instance: the outermost of the chain of instances that call it
unfoldable pub root_from : List InstanceInfo → (levels : ℕ) → (instance : ℕ) → Option ℕ → ℕ
root_from instances levels instance None = instance
root_from instances zero instance (Some caller) = instance
root_from instances (suc levels) instance (Some caller) = root_from instances levels caller (caller_in (slice_get instances caller))

abbrev pub root_of : List InstanceInfo → ℕ → ℕ
root_of instances instance = root_from instances (length instances) instance (caller_in (slice_get instances instance))

-- which of the two roots it is
abbrev pub root_word : Option ℕ → ℕ → List ℕ
root_word None root = codes "frame"
root_word (Some init) root = if root == init then codes "init" else codes "frame"

-- the instances that lead to an instance, where it is no root itself
abbrev pub via : List (List ℕ) → List InstanceInfo → ℕ → Option ℕ → List ℕ
via sources instances instance None = []
via sources instances instance (Some caller) = codes " via" ++ calls_to sources instances (length instances) (Some instance)

-- ` in ROOT` and, where the instance is no root, ` via` and its calls
unfoldable pub instance_text : List (List ℕ) → List InstanceInfo → Option ℕ → ℕ → List ℕ
instance_text sources instances init instance =
    codes " in " ++ root_word init (root_of instances instance)
    ++ via sources instances instance (caller_in (slice_get instances instance))
