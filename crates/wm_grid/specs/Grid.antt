-- The grid of a program, and neighbours in a list of numbers.
use Rattle.std.specs.Prelude.{ℕ, ◌≤◌, ◌<◌, List, [], ◌++◌, length, ℤ, ◌≤ℤ◌, slice_index_or}
use Rattle.std.specs.List.{Contains}
use Rattle.wm_program.specs.declared.program.Program.{Program}
use Rattle.wm_grid.specs.Beside.{powers_to}
use Rattle.wm_grid.specs.Given.{near_each, near_ranges, near_objects, near_functions}
use Rattle.wm_grid.specs.Steps.{steps_from}

-- what the grid has: 0, the powers of two up to 2^31 and the numbers next to them; the numbers near those of the function
-- bodies, the ends of the ranges, the least and the greatest initial number of each object that is not const, and the
-- lengths of the arrays; and the negatives of all these
abbrev pub grid_numbers : Program → List ℤ
grid_numbers program =
    powers_to 32 ++ near_each (steps_from [] program.loops) program.constants
    ++ near_ranges (steps_from [] program.loops) program.inputs ++ near_objects (steps_from [] program.loops) program.objects
    ++ near_functions (steps_from [] program.loops) program.functions

-- y is a number of the list, at z or above
pub record IsAtOrAbove (numbers : List ℤ) (z y : ℤ) : Type 0 where
  pub is_one : Contains numbers y
  pub above : z ≤ℤ y

-- y is a number of the list, at z or below
pub record IsAtOrBelow (numbers : List ℤ) (z y : ℤ) : Type 0 where
  pub is_one : Contains numbers y
  pub below : y ≤ℤ z

-- no number is less than one before it
pub record Ascends (numbers : List ℤ) : Type 0 where
  pub ascends : (i j : ℕ) (d : ℤ) → i ≤ j → j < length numbers → slice_index_or numbers i d ≤ℤ slice_index_or numbers j d
