-- The arguments and the locals of a call, one by one.
use Rattle.std.proofs.Common.{◌≡◌, ℕ, zero, suc, ◌+◌, ◌<◌, ◌≤◌, ℤ, List, [], ◌∷◌, ◌++◌, map, length, drop, replicate, Option, Some, None, refl, sym, ap, ◌∙◌, arith, add-one}
use Rattle.std.specs.Prelude.{slice_index_or, slice_get}
use Rattle.wm_interp.specs.Seen.{first_cells}
use Rattle.wm_program.specs.declared.program.LocalInfo.{LocalInfo}
use Rattle.wm_program.specs.declared.program.Root.{Root}
use Rattle.wm_program.specs.declared.tree.Array.{Array}
use Rattle.wm_program.specs.declared.tree.Converted.{Converted}
use Rattle.wm_program.specs.declared.tree.Passed.{Passed}
use Rattle.wm_program.specs.declared.tree.Passed.TheVariants as passed
use Rattle.wm_program.specs.declared.tree.View.TheVariants as view
use Rattle.wm_program.specs.declared.tree.Expr.{Expr}
use Rattle.wm_program.specs.Code.{cells_in}
use Rattle.wm_program.specs.Execution.{roots_in}
use Rattle.wm_program.specs.Runs.{fresh_cells}
use Rattle.wm_program.specs.State.{Here, root_of}
use Rattle.wm_interp.specs.Parts.{passed_in}

pub roots_value : (here : Here) (x : Converted Expr) (rest : List (Passed Expr)) → roots_in here (passed_in (passed.Value x ∷ rest)) ≡ roots_in here (passed_in rest)
roots_value here x rest = refl

pub roots_whole : (here : Here) (array : Array) (rest : List (Passed Expr)) → roots_in here (passed_in (passed.View (view.Whole array) ∷ rest)) ≡ root_of here array ∷ roots_in here (passed_in rest)
roots_whole here array rest = refl

pub roots_from : (here : Here) (array : Array) (index : Expr) (site : ℕ) (rest : List (Passed Expr)) → roots_in here (passed_in (passed.View (view.From array index site) ∷ rest)) ≡ root_of here array ∷ roots_in here (passed_in rest)
roots_from here array index site rest = refl

next_none : (locals : List LocalInfo) (k : ℕ) (d : LocalInfo) → k < length locals → fresh_cells (drop k locals) [] ≡ replicate (cells_in (slice_index_or locals k d)) None ∷ fresh_cells (drop (suc k) locals) []
next_none [] k d h = absurd (omega arith)
next_none (local ∷ locals) zero d h = refl
next_none (local ∷ locals) (suc k) d h = next_none locals k d (omega arith)

next_suc : (locals : List LocalInfo) (args : List ℤ) (k : ℕ) (d : LocalInfo) → k < length locals → fresh_cells (drop k locals) (drop k args) ≡ first_cells (slice_index_or locals k d) (slice_get args k) ∷ fresh_cells (drop (suc k) locals) (drop (suc k) args)
next_suc [] args k d h = absurd (omega arith)
next_suc (local ∷ locals) [] zero d h = refl
next_suc (local ∷ locals) [] (suc k) d h = next_none locals k d (omega arith)
next_suc (local ∷ locals) (x ∷ args) zero d h = refl
next_suc (local ∷ locals) (x ∷ args) (suc k) d h = next_suc locals args k d (omega arith)

pub fresh_next : (locals : List LocalInfo) (args : List ℤ) (k : ℕ) (d : LocalInfo) → k < length locals → fresh_cells (drop k locals) (drop k args) ≡ first_cells (slice_index_or locals k d) (slice_get args k) ∷ fresh_cells (drop (k + 1) locals) (drop (k + 1) args)
fresh_next locals args k d h = rw add-one (next_suc locals args k d h)

pub fresh_done : (locals : List LocalInfo) (args : List ℤ) → fresh_cells (drop (length locals) locals) args ≡ []
fresh_done [] args = refl
fresh_done (local ∷ locals) args = fresh_done locals args
