-- Laws on what a node shows of a running program.
use Rattle.std.specs.Prelude.{◌≡◌, ℕ, List, ℤ, Some}
use Rattle.wm_program.specs.declared.tree.Scalar.{Scalar}
use Rattle.wm_program.specs.declared.program.Root.{Root}
use Rattle.wm_program.specs.State.{State, number_at, place_of, cells_of}
use Rattle.std.specs.Prelude.{slice_get}
use Rattle.wm_flow.specs.Kept.{at}
use Rattle.wm_flow.specs.Points.{Store}
use Rattle.wm_flow.specs.declared.scene.Scene.{Scene}
use Rattle.wm_flow.specs.declared.scene.Source.TheVariants.{Variable, Cells}
use Rattle.wm_flow.specs.Places.{Plan, here_of, bases_of, scalar_source, root_source}
use Rattle.wm_flow.specs.Shows.{Shows, IsThere}

-- the variable for which a scalar stands has its number, where that is set
abbrev pub ReadsScalar : Type 0
ReadsScalar =
    (plan : Plan) (scene : Scene) (counters temporaries : List ℤ) (s : State) (store : Store)
    (scalar : Scalar) (v : ℕ) (z : ℤ)
    → Shows plan scene counters temporaries s store
    → scalar_source plan scene scalar ≡ Variable v
    → number_at (place_of (here_of plan scene) scalar) s ≡ Some z
    → at store.point v ≡ z

-- the array for which a root stands has its cells
abbrev pub ReadsCells : Type 0
ReadsCells =
    (plan : Plan) (scene : Scene) (counters temporaries : List ℤ) (s : State) (store : Store)
    (it : Root) (array : ℕ)
    → Shows plan scene counters temporaries s store
    → IsThere plan scene it
    → root_source plan (bases_of plan scene) it ≡ Cells array
    → slice_get store.cells array ≡ Some (cells_of it s)
