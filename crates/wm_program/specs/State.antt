-- What a running program holds: cells, the flag Overflow, the rest of the fill list, steps, and what has happened.
use Rattle.std.specs.Prelude.{ℕ, Bool, true, false, List, [], ◌∷◌, ◌++◌, ℤ, pos, Option, Some, None, slice_index_or, slice_set}
use Rattle.wm_ops.specs.declared.words.Counted.{Counted}
use Rattle.wm_ops.specs.declared.words.Counted.TheVariants as counted
use Rattle.wm_ops.specs.declared.words.ControlWord.{ControlWord}
use Rattle.wm_program.specs.declared.program.Root.{Root}
use Rattle.wm_program.specs.declared.program.Root.TheVariants as root
use Rattle.wm_program.specs.declared.results.Cause.{Cause}
use Rattle.wm_program.specs.declared.tree.Scalar.{Scalar}
use Rattle.wm_program.specs.declared.tree.Scalar.TheVariants as scalar
use Rattle.wm_program.specs.declared.tree.Array.{Array}
use Rattle.wm_program.specs.declared.tree.Array.TheVariants as array

-- what is noted on the way, in its order: a counted word, a site that is evaluated or fails, the entry of a loop, and
-- each turn of a loop with the number of turns made since the entry
pub data Note : Type 0 where
  Counts : Counted → Note
  Evaluated : (site : ℕ) → Note
  Failed : (site : ℕ) → Cause → Note
  Entered : (loop : ℕ) → Note
  Turned : (loop turns : ℕ) → Note

-- the cells of a variable; a cell may be unset
abbrev pub Cells : Type 0
Cells = List (Option ℤ)

-- The locals stand by instance: no function calls itself, so an instance has at most one open call. A view parameter
-- has one cell, its offset.
pub record State : Type 0 where
  pub objects : List Cells
  pub locals : List (List Cells)
  pub overflow : ℤ
  pub fill : List ℤ
  pub steps : ℕ
  pub log : List Note

-- where a body runs: the instance, and what each of its view parameters looks into
pub record Here : Type 0 where
  pub instance : ℕ
  pub roots : List Root

-- ---- cells

abbrev pub cells_of : Root → State → Cells
cells_of (root.Object object) s = slice_index_or s.objects object []
cells_of (root.Local instance local) s = slice_index_or (slice_index_or s.locals instance []) local []

abbrev pub with_cells : Root → Cells → State → State
with_cells (root.Object object) cells s = record s { objects = slice_set s.objects object cells }
with_cells (root.Local instance local) cells s =
    record s { locals = slice_set s.locals instance (slice_set (slice_index_or s.locals instance []) local cells) }

-- the number of a cell that was set; a cell past the end is never set
abbrev pub number_in : Cells → ℕ → Option ℤ
number_in cells index = slice_index_or cells index None

-- ---- what a name means in an instance

abbrev pub root_of : Here → Array → Root
root_of here (array.Object object) = root.Object object
root_of here (array.Local local) = root.Local here.instance local
root_of here (array.View local number) = slice_index_or here.roots number (root.Local here.instance local)

-- the number of a scalar that is always set where it is read
abbrev pub set_number : Option ℤ → ℤ
set_number None = pos 0
set_number (Some z) = z

-- how far into its root an array begins
abbrev pub offset_of : Here → Array → State → ℤ
offset_of here (array.Object object) s = pos 0
offset_of here (array.Local local) s = pos 0
offset_of here (array.View local number) s = set_number (number_in (cells_of (root.Local here.instance local) s) 0)

-- what an assignment writes: the flag Overflow, or a cell
pub data Place : Type 0 where
  Flag : Place
  At : Root → (index : ℕ) → Place

abbrev pub place_of : Here → Scalar → Place
place_of here scalar.Overflow = Flag
place_of here (scalar.Object object) = At (root.Object object) 0
place_of here (scalar.Local local) = At (root.Local here.instance local) 0

abbrev pub number_at : Place → State → Option ℤ
number_at Flag s = Some s.overflow
number_at (At root index) s = number_in (cells_of root s) index

abbrev pub put : Place → ℤ → State → State
put Flag z s = record s { overflow = z }
put (At root index) z s = with_cells root (slice_set (cells_of root s) index (Some z)) s

-- ---- notes

abbrev pub noted : Note → State → State
noted note s = record s { log = s.log ++ note ∷ [] }

-- a control word counts where it is written in capitals
abbrev pub counting : Bool → ControlWord → State → State
counting true word s = noted (Counts (counted.Word word)) s
counting false word s = s

-- an operator that flags sets Overflow
abbrev pub flagged : Bool → State → State
flagged true s = record s { overflow = pos 1 }
flagged false s = s

abbrev pub failed_if : Bool → ℕ → Cause → State → State
failed_if true site cause s = noted (Failed site cause) s
failed_if false site cause s = s
