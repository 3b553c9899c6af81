-- The set cells of objects, as ends of the least interval that holds them.
use Rattle.std.specs.Prelude.{ℕ, suc, Bool, ◌||◌, if◌then◌else◌, List, [], ◌∷◌, map, ℤ, Option, Some, None, slice_index_or}
use Rattle.wm_arrays.specs.declared.state_line.StateLine.{StateLine}
use Rattle.wm_arrays.specs.Ends.{ends_of, joined}
use Rattle.wm_program.specs.declared.program.ObjectInfo.{ObjectInfo}
use Rattle.wm_program.specs.State.{Cells}

-- an object, and the least and greatest number that was seen in its cells; none where none of them was set
pub record Line : Type 0 where
  pub object : ℕ
  pub ends : Option (ℤ × ℤ)

abbrev pub line_of : StateLine → Line
line_of line = record { object = line.object; ends = ends_of line.summary }

abbrev pub lines_of : List StateLine → List Line
lines_of lines = map line_of lines

abbrev pub with_cell : Option (ℤ × ℤ) → Option ℤ → Option (ℤ × ℤ)
with_cell found None = found
with_cell found (Some z) = joined found (Some (z, z))

abbrev pub with_cells : Option (ℤ × ℤ) → Cells → Option (ℤ × ℤ)
with_cells found [] = found
with_cells found (cell ∷ cells) = with_cells (with_cell found cell) cells

-- with the cells as they stand
abbrev pub looked_at : List Cells → Line → Line
looked_at objects line =
    record { object = line.object; ends = with_cells line.ends (slice_index_or objects line.object []) }

-- an object has no line where it is const or an input
abbrev pub line_for : ℕ → ObjectInfo → List Line → List Line
line_for number object lines = if object.constant || object.input then lines else record { object = number; ends = None } ∷ lines

-- nothing seen of the objects, of which the first has this number
abbrev pub unseen_from : ℕ → List ObjectInfo → List Line
unseen_from number [] = []
unseen_from number (object ∷ objects) = line_for number object (unseen_from (suc number) objects)
