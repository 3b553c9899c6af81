-- What a pen draws of the parameters of an instance whose addresses are taken.
use Rattle.std.specs.Prelude.{ℕ, zero, suc, ◌+◌, List, [], ◌∷◌, ◌++◌, None}
use Rattle.wm_flow.specs.declared.scene.Scene.{Scene}
use Rattle.wm_flow.specs.declared.seats.LocalSeat.{LocalSeat}
use Rattle.wm_flow.specs.declared.seats.LocalSeat.TheVariants as local_seat
use Rattle.wm_flow.specs.Kept.{form_of, variable}
use Rattle.wm_flow.specs.Plain.{Write}
use Rattle.wm_flow.specs.Places.{Plan, bases_of, temporary}
use Rattle.wm_flow.specs.Strokes.{Stroke, step}
use Rattle.wm_flow.specs.Calls.{addressed_among, addressed_in}
use Rattle.wm_flow.specs.Parts.{stored_parameters, storing_from}
use Rattle.wm_pen.specs.Ink.{Ink, put}

-- the writes of the first so many locals that are kept as arrays, the last one first, behind so many temporaries
abbrev pub writes : Plan → Scene → List LocalSeat → (count above kept node : ℕ) → List Stroke
writes plan scene [] count above kept node = []
writes plan scene (seat ∷ rest) zero above kept node = []
writes plan scene (local_seat.Scalar k ∷ rest) (suc count) above kept node = writes plan scene rest count above kept node
writes plan scene (local_seat.Array k ∷ rest) (suc count) above kept node =
    writes plan scene rest count above (suc kept) node
    ++ step plan scene (node + addressed_among rest count) (Write (above + k) (form_of (variable (temporary (bases_of plan scene) kept))) 1) None kept

unfoldable pub storing : Plan → Scene → List LocalSeat → (count above kept : ℕ) → Ink → Ink
storing plan scene seats count above kept ink =
    put (addressed_among seats count) (writes plan scene seats count above kept ink.node) ink

-- all addressed parameters
unfoldable pub storing_all : Plan → Scene → Ink → Ink
storing_all plan scene ink =
    put (addressed_in plan scene.function) (storing_from plan scene (stored_parameters plan scene) ink.node) ink
