-- When what a node holds shows the state of a running program: its variables have the numbers of the scalars for which
-- they stand, and its arrays the cells. A local whose cell is unset may have any number.
use Rattle.std.specs.Prelude.{◌≡◌, ℕ, zero, suc, ◌+◌, ◌<◌, Bool, false, ◌||◌, ◌==◌, IsTrue, List, [], ◌∷◌, length, ℤ, pos, Option, Some, None, slice_get, slice_index_or, IfSome}
use Rattle.std.specs.Option.{option_map_or}
use Rattle.wm_program.specs.declared.program.Root.{Root}
use Rattle.wm_program.specs.declared.program.Root.TheVariants as root
use Rattle.wm_program.specs.declared.tree.Scalar.{Scalar}
use Rattle.wm_program.specs.Code.{Code}
use Rattle.wm_program.specs.State.{State, Place, Here, number_at, number_in, cells_of, place_of}
use Rattle.wm_flow.specs.Plain.{Range, Layout}
use Rattle.wm_flow.specs.Layouts.{caller_of}
use Rattle.wm_flow.specs.Kept.{at}
use Rattle.wm_flow.specs.Points.{Store, StoreOf, CellsIn}
use Rattle.wm_flow.specs.declared.scene.Scene.{Scene}
use Rattle.wm_flow.specs.declared.scene.Bases.{Bases}
use Rattle.wm_flow.specs.declared.scene.Source.{Source}
use Rattle.wm_flow.specs.declared.scene.Source.TheVariants.{Variable, Cells, Fixed}
use Rattle.wm_flow.specs.Places.{Plan, bases_of, scalar_source, root_source, here_of, first_counter, temporary}

-- the number of a scalar, where it is set
abbrev pub ShowsNumber : List ℤ → ℕ → Option ℤ → Type 0
ShowsNumber point v None = Unit {0}
ShowsNumber point v (Some z) = at point v ≡ z

abbrev pub ShowsSource : Store → Option ℤ → Source → Type 0
ShowsSource store number (Variable v) = ShowsNumber store.point v number
ShowsSource store number (Cells array) = Unit {0}
ShowsSource store number (Fixed low high) = Unit {0}

-- the cells of an array
abbrev pub ShowsCells : Store → List (Option ℤ) → Source → Type 0
ShowsCells store cells (Variable v) = Unit {0}
ShowsCells store cells (Cells array) = slice_get store.cells array ≡ Some cells
ShowsCells store cells (Fixed low high) = CellsIn (Some (record { low = low; high = high })) cells

-- numbers one after another, from a variable on
abbrev pub ShowsFrom : List ℤ → ℕ → List ℤ → Type 0
ShowsFrom point v [] = Unit {0}
ShowsFrom point v (z ∷ rest) = (at point v ≡ z) × ShowsFrom point (suc v) rest

-- an instance that is open at this one: it, or one that called it
unfoldable pub is_open : Code → (levels : ℕ) → (instance other : ℕ) → Bool
is_open code zero instance other = instance == other
is_open code (suc levels) instance other =
    (instance == other) || option_map_or (λ caller. is_open code levels caller other) (caller_of code instance) false

-- the arrays that a node has: those of static storage, and the automatic ones of the open instances
abbrev pub IsThere : Plan → Scene → Root → Type 0
IsThere plan scene (root.Object object) = Unit {0}
IsThere plan scene (root.Local instance local) =
    IsTrue (is_open plan.code (length plan.code.instances) scene.instance instance)

-- What a node of a scene holds shows a state, with these numbers of its counters, loops first, and of its temporaries.
pub record Shows (plan : Plan) (scene : Scene) (counters temporaries : List ℤ) (s : State) (store : Store) : Type 0 where
  pub scalars : (scalar : Scalar) → ShowsSource store (number_at (place_of (here_of plan scene) scalar) s) (scalar_source plan scene scalar)
  pub arrays : (it : Root) → IsThere plan scene it → ShowsCells store (cells_of it s) (root_source plan (bases_of plan scene) it)
  pub numbered : ShowsFrom store.point (first_counter (bases_of plan scene)) counters
  pub between : ShowsFrom store.point (temporary (bases_of plan scene) 0) temporaries

-- A state of the analysis, given by its points and by the range of each array's set cells, holds of a running program at a
-- node: what the program shows there is one of its points, and each set cell lies in its array's range.
module _ (points : List ℤ → Type 0) (arrays : List (Option Range)) where
  pub record HoldsOf (plan : Plan) (scene : Scene) (counters temporaries : List ℤ) (s : State) : Type 0 where
    pub store : Store
    pub shows : Shows plan scene counters temporaries s store
    pub point : points store.point
    pub cells : (array : ℕ) (summary : Option Range) → slice_get arrays array ≡ Some summary → CellsIn summary (slice_index_or store.cells array [])
