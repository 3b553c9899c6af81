-- What each input of a program takes of a frame.
use Rattle.std.specs.Prelude.{ℕ, ℤ, ◌+◌, ◌*◌, List, [], ◌∷◌, map, slice_get}
use Rattle.std.specs.Option.{option_map_or}
use Rattle.wm_ops.specs.declared.operators.Width.{Width}
use Rattle.wm_ops.specs.declared.operators.Width.TheVariants.{W16}
use Rattle.wm_program.specs.declared.program.ObjectInfo.{ObjectInfo}
use Rattle.wm_program.specs.declared.program.InputInfo.{InputInfo}
use Rattle.wm_program.specs.declared.program.Program.{Program}
use Rattle.wm_samples.specs.Numbers.{bytes_of}

-- an input: its cells, their width, and the least and greatest number of each
pub record Form : Type 0 where
  pub cells : ℕ
  pub width : Width
  pub low : ℤ
  pub high : ℤ

-- the cells of an input and their width; an input that names no object has none
abbrev pub cells_in : List ObjectInfo → ℕ → ℕ
cells_in objects object = option_map_or (λ (o : ObjectInfo). o.length) (slice_get objects object) 0

abbrev pub width_in : List ObjectInfo → ℕ → Width
width_in objects object = option_map_or (λ (o : ObjectInfo). o.width) (slice_get objects object) W16

abbrev pub form_in : List ObjectInfo → InputInfo → Form
form_in objects input =
    record { cells = cells_in objects input.object; width = width_in objects input.object; low = input.range.low; high = input.range.high }

-- the inputs of a program, in their order
abbrev pub forms_of : Program → List Form
forms_of program = map (form_in program.objects) program.inputs

-- how many bytes an input takes of a frame
abbrev pub bytes_in : Form → ℕ
bytes_in form = form.cells * bytes_of form.width

-- how many bytes a frame takes
abbrev pub frame_bytes : List Form → ℕ
frame_bytes [] = 0
frame_bytes (form ∷ forms) = bytes_in form + frame_bytes forms
