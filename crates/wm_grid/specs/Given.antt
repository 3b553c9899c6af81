-- What a grid has beside the numbers that a program gives.
use Rattle.std.specs.Prelude.{ℕ, List, [], ◌∷◌, ◌++◌, length, Bool, true, false, ℤ, pos, Option, Some, None, nat_lt, if◌then◌else◌}
use Rattle.std.specs.Int.{int_max, int_min}
use Rattle.wm_program.specs.declared.program.FunctionInfo.{FunctionInfo}
use Rattle.wm_program.specs.declared.program.InputInfo.{InputInfo}
use Rattle.wm_program.specs.declared.program.LocalInfo.{LocalInfo}
use Rattle.wm_program.specs.declared.program.ObjectInfo.{ObjectInfo}
use Rattle.wm_grid.specs.Beside.{near}

abbrev pub near_each : List ℕ → List ℤ → List ℤ
near_each steps [] = []
near_each steps (c ∷ cs) = near steps c ++ near_each steps cs

-- both ends of the range of an input
unfoldable pub near_range : List ℕ → InputInfo → List ℤ
near_range steps input = near steps input.range.low ++ near steps input.range.high

abbrev pub near_ranges : List ℕ → List InputInfo → List ℤ
near_ranges steps [] = []
near_ranges steps (input ∷ inputs) = near_range steps input ++ near_ranges steps inputs

abbrev pub first_of : List ℤ → ℤ
first_of [] = pos 0
first_of (z ∷ zs) = z

-- cells without an initial number begin with 0
abbrev pub first_number : ObjectInfo → ℤ
first_number object = if nat_lt (length object.initial) object.length then pos 0 else first_of object.initial

abbrev pub least_from : ℤ → List ℤ → ℤ
least_from least [] = least
least_from least (z ∷ zs) = least_from (int_min z least) zs

abbrev pub greatest_from : ℤ → List ℤ → ℤ
greatest_from greatest [] = greatest
greatest_from greatest (z ∷ zs) = greatest_from (int_max z greatest) zs

-- the length of an array
abbrev pub near_length : List ℕ → ObjectInfo → List ℤ
near_length steps object = if object.scalar then [] else near steps (pos object.length)

-- the least and the greatest number that an object begins with
unfoldable pub least_number : ObjectInfo → ℤ
least_number object = least_from (first_number object) object.initial

unfoldable pub greatest_number : ObjectInfo → ℤ
greatest_number object = greatest_from (first_number object) object.initial

unfoldable pub near_ends : List ℕ → ObjectInfo → List ℤ
near_ends steps object = near steps (least_number object) ++ near steps (greatest_number object)

-- the same of an object that may change
abbrev pub near_initial : List ℕ → ObjectInfo → List ℤ
near_initial steps object = if object.constant then [] else near_ends steps object

abbrev pub near_objects : List ℕ → List ObjectInfo → List ℤ
near_objects steps [] = []
near_objects steps (object ∷ objects) = near_length steps object ++ near_initial steps object ++ near_objects steps objects

-- the length of an automatic array
abbrev pub near_array : List ℕ → Option ℕ → List ℤ
near_array steps None = []
near_array steps (Some length) = near steps (pos length)

abbrev pub near_locals : List ℕ → List LocalInfo → List ℤ
near_locals steps [] = []
near_locals steps (local ∷ locals) = near_array steps local.array ++ near_locals steps locals

abbrev pub near_functions : List ℕ → List FunctionInfo → List ℤ
near_functions steps [] = []
near_functions steps (function ∷ functions) = near_locals steps function.locals ++ near_functions steps functions
