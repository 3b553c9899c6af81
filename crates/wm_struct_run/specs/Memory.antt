-- What a running program with structs holds: the cells of variables, for each struct object its members with their cells, the flag
-- Overflow, the rest of the fill list, steps, and what has happened.
use Rattle.std.specs.Prelude.{ℕ, Bool, true, false, if◌then◌else◌, ◌==◌, List, [], ◌∷◌, ◌++◌, ℤ, pos, Option, Some, None, slice_set}
use Rattle.wm_ops.specs.declared.words.Counted.{Counted}
use Rattle.wm_ops.specs.declared.words.Counted.TheVariants as counted
use Rattle.wm_ops.specs.declared.words.ControlWord.{ControlWord}
use Rattle.wm_source.specs.Steps.{same_bytes}
use Rattle.wm_program.specs.declared.results.Cause.{Cause}
use Rattle.wm_program.specs.State.{Cells, Note, Counts, Failed, number_in}

-- Where cells are kept. A variable is known by the token at which it is declared: no function reaches itself, so each stands once. A
-- member is known by the token of its struct object and by its name.
pub data Key : Type 0 where
  Variable : (token : ℕ) → Key
  Member : (token : ℕ) → (name : List ℕ) → Key

pub record State : Type 0 where
  pub variables : List (ℕ × Cells)
  -- each struct object with its members
  pub structures : List (ℕ × List (List ℕ × Cells))
  pub overflow : ℤ
  pub fill : List ℤ
  pub steps : ℕ
  pub log : List Note

-- ---- maps as lists

abbrev pub found : {K V : Type 0} → (K → Bool) → V → List (K × V) → V
found is none [] = none
found is none (entry ∷ rest) = if is entry.0 then entry.1 else found is none rest

-- what stands at a key is changed; where nothing does, `none` is changed and added
abbrev pub changed : {K V : Type 0} → (K → Bool) → K → (V → V) → V → List (K × V) → List (K × V)
changed is key change none [] = (key, change none) ∷ []
changed is key change none (entry ∷ rest) = if is entry.0 then (entry.0, change entry.1) ∷ rest else entry ∷ changed is key change none rest

-- ---- cells

abbrev pub cells_of : Key → State → Cells
cells_of (Variable token) s = found (λ it. it == token) [] s.variables
cells_of (Member token name) s = found (same_bytes name) [] (found (λ it. it == token) [] s.structures)

abbrev pub with_cells : Key → Cells → State → State
with_cells (Variable token) cells s =
    record s { variables = changed (λ it. it == token) token (λ old. cells) [] s.variables }
with_cells (Member token name) cells s =
    record s { structures = changed (λ it. it == token) token (changed (same_bytes name) name (λ old. cells) []) [] s.structures }

-- what an assignment writes: the flag Overflow, or a cell
pub data Place : Type 0 where
  Flag : Place
  At : Key → (index : ℕ) → Place

abbrev pub number_at : Place → State → Option ℤ
number_at Flag s = Some s.overflow
number_at (At key index) s = number_in (cells_of key s) index

abbrev pub put : Place → ℤ → State → State
put Flag z s = record s { overflow = z }
put (At key index) z s = with_cells key (slice_set (cells_of key s) index (Some z)) s

-- ---- notes

abbrev pub noted : Note → State → State
noted note s = record s { log = s.log ++ note ∷ [] }

abbrev pub counting : Bool → ControlWord → State → State
counting true word s = noted (Counts (counted.Word word)) s
counting false word s = s

abbrev pub flagged : Bool → State → State
flagged true s = record s { overflow = pos 1 }
flagged false s = s

abbrev pub failed_if : Bool → ℕ → Cause → State → State
failed_if true site cause s = noted (Failed site cause) s
failed_if false site cause s = s
