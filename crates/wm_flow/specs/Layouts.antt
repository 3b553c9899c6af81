-- The layouts of nodes: the full ranges of the variables and of the cells of the arrays, in the order of their places.
use Rattle.std.specs.Prelude.{ℕ, zero, suc, ◌+◌, Bool, true, false, not, ◌&&◌, if◌then◌else◌, List, [], ◌∷◌, ◌++◌, map, length, replicate, take, drop, ℤ, pos, negsuc, Option, Some, None, slice_get, slice_index_or}
use Rattle.std.specs.Option.{option_map_or}
use Rattle.wm_ops.specs.declared.operators.Width.{Width}
use Rattle.wm_ops.specs.declared.operators.Width.TheVariants.{W16, W32}
use Rattle.wm_program.specs.declared.program.LocalInfo.{LocalInfo}
use Rattle.wm_program.specs.declared.program.ObjectInfo.{ObjectInfo}
use Rattle.wm_program.specs.declared.program.Root.{Root}
use Rattle.wm_program.specs.Code.{Code, routine_at, function_of, roots_of, length_of}
use Rattle.wm_flow.specs.Plain.{Range, Layout}
use Rattle.wm_flow.specs.Seats.{is_stored, is_array}

abbrev pub range : ℤ → ℤ → Range
range low high = record { low = low; high = high }

abbrev pub word16 : Range
word16 = range (negsuc 32767) (pos 32767)

abbrev pub word32 : Range
word32 = range (negsuc 2147483647) (pos 2147483647)

abbrev pub width_range : Width → Range
width_range W16 = word16
width_range W32 = word32

-- counters of loops and sum counters
abbrev pub count_range : Range
count_range = range (pos 0) (pos 2147483647)

-- ---- objects

abbrev pub ranges_where : (ObjectInfo → Bool) → List ObjectInfo → List Range
ranges_where test [] = []
ranges_where test (object ∷ rest) =
    if test object then width_range object.width ∷ ranges_where test rest else ranges_where test rest

abbrev pub is_state : ObjectInfo → Bool
is_state object = not object.constant && not (is_stored object) && not object.input

abbrev pub is_input : ObjectInfo → Bool
is_input object = not object.constant && not (is_stored object) && object.input

abbrev pub is_static_array : ObjectInfo → Bool
is_static_array object = not object.constant && is_stored object

abbrev pub state_ranges : Code → List Range
state_ranges code = ranges_where is_state code.objects

abbrev pub input_ranges : Code → List Range
input_ranges code = ranges_where is_input code.objects

abbrev pub static_arrays : Code → List Range
static_arrays code = ranges_where is_static_array code.objects

-- ---- locals

-- the offset of a view: from the first cell of the array to its end
abbrev pub view_range : Code → Option Root → Range
view_range code None = range (pos 0) (pos 0)
view_range code (Some root) = range (pos 0) (pos (length_of code root))

-- the scalars of a function; `roots` are what its views look into
abbrev pub scalar_ranges : Code → List Root → List LocalInfo → List Range
scalar_ranges code roots [] = []
scalar_ranges code roots (local ∷ rest) =
    if is_array local then scalar_ranges code roots rest
    else if local.view then view_range code (slice_get roots 0) ∷ scalar_ranges code (drop 1 roots) rest
    else width_range local.width ∷ scalar_ranges code roots rest

abbrev pub array_ranges : List LocalInfo → List Range
array_ranges [] = []
array_ranges (local ∷ rest) =
    if is_array local then width_range local.width ∷ array_ranges rest else array_ranges rest

abbrev pub locals_of : Code → ℕ → List LocalInfo
locals_of code instance = (routine_at code (function_of code instance)).locals

abbrev pub instance_scalars : Code → ℕ → List Range
instance_scalars code instance = scalar_ranges code (roots_of code instance) (locals_of code instance)

abbrev pub caller_of : Code → ℕ → Option ℕ
caller_of code instance = option_map_or (λ it. it.caller) (slice_get code.instances instance) None

-- the arrays of the instances from the root to this one, through so many callers
unfoldable pub path_arrays : Code → (levels : ℕ) → ℕ → List Range
path_arrays code zero instance = array_ranges (locals_of code instance)
path_arrays code (suc levels) instance =
    option_map_or (path_arrays code levels) (caller_of code instance) [] ++ array_ranges (locals_of code instance)

-- ---- layouts

-- at the frame head, and where a run without init starts
unfoldable pub static_layout : Code → Layout
static_layout code =
    record {
      group = take 8 (state_ranges code);
      singles = drop 8 (state_ranges code) ++ word32 ∷ [];
      arrays = static_arrays code;
    }

-- at a node of an instance, with so many counters of both kinds and so many temporaries in use
unfoldable pub instance_layout : Code → (instance counters temporaries : ℕ) → Layout
instance_layout code instance counters temporaries =
    record {
      group = take 8 (state_ranges code) ++ take 12 (instance_scalars code instance) ++ replicate counters count_range;
      singles =
          drop 8 (state_ranges code) ++ input_ranges code ++ word32 ∷ drop 12 (instance_scalars code instance)
          ++ replicate temporaries word32;
      arrays = static_arrays code ++ path_arrays code (length code.instances) instance;
    }

abbrev pub layout_at : Code → Option ℕ → (counters temporaries : ℕ) → Layout
layout_at code None counters temporaries = static_layout code
layout_at code (Some instance) counters temporaries = instance_layout code instance counters temporaries
