-- What a frame counts at most, for each frame function.
use Rattle.std.specs.Prelude.{ℕ, Bool, List, [], ◌∷◌, Option}
use Rattle.wm_program.specs.declared.program.Program.{Program}
use Rattle.wm_flow.specs.declared.graph.Bound.{Bound}
use Rattle.wm_flow.specs.declared.graph.Graph.{Graph}
use Rattle.wm_cost.specs.Bounds.{frame_bound}
use Rattle.wm_bounds.specs.declared.parts.Part.{Part}
use Rattle.wm_bounds.specs.Parts.{parts_of, lives_in}

-- the bound where the edges from and to the nodes of other frame functions are not live
abbrev pub bound_in : Graph → (weights : List (Option ℕ)) → (turns : List (Option ℕ)) → (live stops : List Bool) → Part → Bound
bound_in graph weights turns live stops part = frame_bound graph weights turns (lives_in graph part live) stops

abbrev pub bounds_from : Graph → (weights : List (Option ℕ)) → (turns : List (Option ℕ)) → (live stops : List Bool) → List Part → List Bound
bounds_from graph weights turns live stops [] = []
bounds_from graph weights turns live stops (part ∷ rest) =
    bound_in graph weights turns live stops part ∷ bounds_from graph weights turns live stops rest

abbrev pub bounds_of : Program → Graph → (weights : List (Option ℕ)) → (turns : List (Option ℕ)) → (live stops : List Bool) → List Bound
bounds_of program graph weights turns live stops = bounds_from graph weights turns live stops (parts_of program)
