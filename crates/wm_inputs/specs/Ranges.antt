-- The inputs: objects that have a range.
use Rattle.std.specs.Prelude.{ℕ, suc, ℤ, pos, negsuc, int_le, Bool, true, not, ◌&&◌, if◌then◌else◌, List, [], ◌∷◌, ◌++◌, map, Option, Some, None, is_some}
use Rattle.wm_interval.specs.declared.Interval.{Interval}
use Rattle.wm_ops.specs.declared.operators.Width.{Width}
use Rattle.wm_ops.specs.declared.operators.Width.TheVariants.{W16, W32}
use Rattle.wm_program.specs.declared.program.InputInfo.{InputInfo}
use Rattle.wm_program.specs.declared.program.ObjectInfo.{ObjectInfo}
use Rattle.wm_program.specs.declared.spec.RangeOf.{RangeOf}
use Rattle.wm_inputs.specs.Entries.{is_named}

-- both ends lie between two numbers
abbrev pub bounds : Interval → ℤ → ℤ → Bool
bounds range least greatest =
    int_le least range.low && int_le range.low greatest && int_le least range.high && int_le range.high greatest

-- both ends lie in a type
abbrev pub lies_in : Interval → Width → Bool
lies_in range W16 = bounds range (negsuc 32767) (pos 32767)
lies_in range W32 = bounds range (negsuc 2147483647) (pos 2147483647)

abbrev pub object_from : ℕ → List ℕ → List ObjectInfo → Option ℕ
object_from k word [] = None
object_from k word (object ∷ rest) = if is_named object.name word then Some k else object_from (suc k) word rest

-- the number of the object of this name
unfoldable pub object_of : List ObjectInfo → List ℕ → Option ℕ
object_of objects word = object_from 0 word objects

abbrev pub range_named : List RangeOf → List ℕ → Option Interval
range_named [] word = None
range_named (range ∷ rest) word = if is_named range.name word then Some range.range else range_named rest word

abbrev pub is_unfit : ObjectInfo → Interval → Bool
is_unfit object range = if object.constant then true else not (lies_in range object.width)

-- the range names no object that may change, or does not lie in its type
abbrev pub is_bad : List ObjectInfo → RangeOf → Bool
is_bad [] range = true
is_bad (object ∷ rest) range = if is_named object.name range.name then is_unfit object range.range else is_bad rest range

-- the name of the first such
abbrev pub bad_range : List ObjectInfo → List RangeOf → Option (List ℕ)
bad_range objects [] = None
bad_range objects (range ∷ rest) = if is_bad objects range then Some range.name else bad_range objects rest

-- ---- inputs

abbrev pub with_input : Option ℕ → Option Interval → List InputInfo → List InputInfo
with_input None range inputs = inputs
with_input (Some object) None inputs = inputs
with_input (Some object) (Some range) inputs = inputs ++ record { object = object; range = range } ∷ []

-- those of these names, in their order
abbrev pub packed_from : List ObjectInfo → List RangeOf → List (List ℕ) → List InputInfo → List InputInfo
packed_from objects ranges [] inputs = inputs
packed_from objects ranges (name ∷ rest) inputs =
    packed_from objects ranges rest (with_input (object_of objects name) (range_named ranges name) inputs)

-- those that have a range, in the order of declaration
abbrev pub declared_from : ℕ → List RangeOf → List ObjectInfo → List InputInfo → List InputInfo
declared_from k ranges [] inputs = inputs
declared_from k ranges (object ∷ rest) inputs =
    declared_from (suc k) ranges rest (with_input (Some k) (range_named ranges object.name) inputs)

-- in the order of `pack`, or without it in the order of declaration, behind those that are there
abbrev pub inputs_of : List ObjectInfo → List RangeOf → Option (List (List ℕ)) → List InputInfo → List InputInfo
inputs_of objects ranges None inputs = declared_from 0 ranges objects inputs
inputs_of objects ranges (Some pack) inputs = packed_from objects ranges pack inputs

-- ---- objects

abbrev pub marked_object : List RangeOf → ObjectInfo → ObjectInfo
marked_object ranges object = record object { input = is_some (range_named ranges object.name) }

-- the objects, of which those that have a range are inputs
unfoldable pub marked_objects : List RangeOf → List ObjectInfo → List ObjectInfo
marked_objects ranges objects = map (marked_object ranges) objects
