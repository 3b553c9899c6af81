-- From where the variables of the first node of an instance come that is entered from the head of the frames.
use Rattle.std.specs.Prelude.{ℕ, List, [], ◌∷◌, ◌++◌, Option, Some}
use Rattle.wm_flow.specs.declared.scene.Bases.{Bases}
use Rattle.wm_flow.specs.Places.{related_states, related_scalars, other_states, other_scalars}
use Rattle.wm_flow.specs.Calls.{places_from, none_for}

unfoldable pub picks_from_head : Bases → List (Option ℕ)
picks_from_head bases =
    places_from 0 (related_states bases.counts) ++ none_for (related_scalars bases.locals)
    ++ places_from (related_states bases.counts) (other_states bases.counts) ++ none_for bases.counts.inputs
    ++ Some bases.counts.states ∷ none_for (other_scalars bases.locals)
