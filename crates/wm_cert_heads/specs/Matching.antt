-- When the heads of a text are those of a graph: there are as many, and each has the name, the sum counters, and the
-- numbers of variables and arrays of its head; and pairs are of the group.
use Rattle.std.specs.Prelude.{ℕ, ◌+◌, Bool, true, false, if◌then◌else◌, ◌==◌, nat_lt, List, [], ◌∷◌, length, Option, Some, None, slice_get, slice_index_or}
use Rattle.wm_domain.specs.declared.shape.Shape.{Shape}
use Rattle.wm_flow.specs.declared.graph.Graph.{Graph}
use Rattle.wm_flow.specs.declared.graph.Head.{Head}
use Rattle.wm_cert_text.specs.declared.told.Head as texts
use Rattle.wm_cert_text.specs.declared.told.HeadName.{HeadName}
use Rattle.wm_cert_text.specs.declared.told.HeadName.TheVariants as name
use Rattle.wm_cert_text.specs.declared.told.Pair.{Pair}
use Rattle.wm_cert_text.specs.declared.told.State.{State}
use Rattle.wm_cert_heads.specs.Sums.{are_told}

abbrev pub are_loop : (loop_id instance : Option ℕ) → (told_id told_instance : ℕ) → Bool
are_loop None instance told_id told_instance = false
are_loop (Some loop_id) None told_id told_instance = false
are_loop (Some loop_id) (Some instance) told_id told_instance =
    if loop_id == told_id then instance == told_instance else false

abbrev pub is_frame : (loop_id : Option ℕ) → Bool
is_frame None = true
is_frame (Some loop_id) = false

abbrev pub names_match : (loop_id instance : Option ℕ) → HeadName → Bool
names_match loop_id instance name.Frame = is_frame loop_id
names_match loop_id instance (name.Loop told_id told_instance) = are_loop loop_id instance told_id told_instance

-- of a pair the second variable is the greater one
abbrev pub pairs_in : (group : ℕ) → List Pair → Bool
pairs_in group [] = true
pairs_in group (pair ∷ rest) = if nat_lt pair.second group then pairs_in group rest else false

unfoldable pub fits_shape : Shape → State → Bool
fits_shape shape state =
    if length state.bounds == length shape.group + length shape.singles
    then (if length state.arrays == length shape.arrays then pairs_in (length shape.group) state.pairs else false)
    else false

abbrev pub state_fits : Option Shape → Option State → Bool
state_fits None state = false
state_fits (Some shape) None = true
state_fits (Some shape) (Some state) = fits_shape shape state

-- the shape of a node
abbrev pub shape_at : Graph → ℕ → Option Shape
shape_at graph node = slice_get graph.shapes (slice_index_or graph.node_shape node 0)

unfoldable pub head_matches : Graph → (number : ℕ) → Head → texts.Head → Bool
head_matches graph number head told =
    if names_match head.loop_id head.instance told.name
    then (if are_told number told.sums 0 graph.sums then state_fits (shape_at graph head.node) told.state else false)
    else false

abbrev pub is_matched : Graph → (number : ℕ) → Head → Option texts.Head → Bool
is_matched graph number head None = false
is_matched graph number head (Some told) = head_matches graph number head told

abbrev pub all_match : Graph → List texts.Head → (number : ℕ) → List Head → Bool
all_match graph told number [] = true
all_match graph told number (head ∷ rest) =
    if is_matched graph number head (slice_get told number) then all_match graph told (number + 1) rest else false

unfoldable pub has_heads : Graph → List texts.Head → Bool
has_heads graph told = if length told == length graph.heads then all_match graph told 0 graph.heads else false
