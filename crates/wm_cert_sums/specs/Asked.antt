-- Which sum counters a text asks for, and when a graph can have them: the heads are those of the graph by name, and each sum
-- counter is that of an innermost loop and of a state scalar or a local in the group of its head.
use Rattle.std.specs.Prelude.{ℕ, ◌+◌, Bool, true, false, not, if◌then◌else◌, ◌==◌, nat_lt, int_lt, ℤ, pos, List, [], ◌∷◌, ◌++◌, length, Option, Some, None, slice_get, slice_index_or}
use Rattle.wm_interval.specs.declared.Interval.{Interval}
use Rattle.wm_domain.specs.declared.shape.Shape.{Shape}
use Rattle.wm_flow.specs.declared.graph.Edge.{Edge}
use Rattle.wm_flow.specs.declared.graph.Graph.{Graph}
use Rattle.wm_flow.specs.declared.graph.Head.{Head}
use Rattle.wm_flow.specs.declared.graph.Sum.{Sum}
use Rattle.wm_cert_text.specs.declared.told.Head as texts
use Rattle.wm_cert_text.specs.declared.told.SumStep.{SumStep}
use Rattle.wm_cert_heads.specs.Matching.{names_match}

-- ---- variables: counters and offsets of views have no negative number in their full ranges, scalars have

abbrev pub has_negative : Option Interval → Bool
has_negative None = false
has_negative (Some full) = int_lt full.low (pos 0)

abbrev pub is_summable : List Interval → SumStep → Bool
is_summable group sum = has_negative (slice_get group sum.variable)

abbrev pub are_summable : List Interval → List SumStep → Bool
are_summable group [] = true
are_summable group (sum ∷ rest) = if is_summable group sum then are_summable group rest else false

-- the shape of a node
abbrev pub shape_at : Graph → ℕ → Option Shape
shape_at graph node = slice_get graph.shapes (slice_index_or graph.node_shape node 0)

abbrev pub summable_in : Option Shape → List SumStep → Bool
summable_in None sums = false
summable_in (Some shape) sums = are_summable shape.group sums

-- ---- innermost loops: heads stand by instance and then by token, so the first loop inside one has the next head

abbrev pub same_instance : Option ℕ → Option ℕ → Bool
same_instance None other = false
same_instance (Some a) None = false
same_instance (Some a) (Some b) = a == b

-- the nodes of a loop lie from its head to the source of its back edge
abbrev pub is_up_to : ℕ → Option Edge → Bool
is_up_to node None = false
is_up_to node (Some edge) = not (nat_lt edge.source node)

abbrev pub is_within : Graph → Head → Option Head → Bool
is_within graph head None = false
is_within graph head (Some next) =
    if same_instance head.instance next.instance
    then (if nat_lt head.node next.node then is_up_to next.node (slice_get graph.edges head.back) else false)
    else false

abbrev pub is_loop : Option ℕ → Bool
is_loop None = false
is_loop (Some loop_id) = true

abbrev pub is_innermost : Graph → (number : ℕ) → Head → Bool
is_innermost graph number head =
    if is_loop head.loop_id then not (is_within graph head (slice_get graph.heads (number + 1))) else false

-- ---- heads

abbrev pub sums_fit : Graph → (number : ℕ) → Head → List SumStep → Bool
sums_fit graph number head [] = true
sums_fit graph number head (sum ∷ rest) =
    if is_innermost graph number head then summable_in (shape_at graph head.node) (sum ∷ rest) else false

unfoldable pub fits_head : Graph → (number : ℕ) → Head → texts.Head → Bool
fits_head graph number head told =
    if names_match head.loop_id head.instance told.name then sums_fit graph number head told.sums else false

abbrev pub head_fits : Graph → (number : ℕ) → Head → Option texts.Head → Bool
head_fits graph number head None = false
head_fits graph number head (Some told) = fits_head graph number head told

-- ---- the sum counters in their order

abbrev pub sums_with : (head : ℕ) → List SumStep → List Sum
sums_with head [] = []
sums_with head (sum ∷ rest) = record { head = head; variable = sum.variable; step = sum.step } ∷ sums_with head rest

abbrev pub sums_from : (head : ℕ) → List texts.Head → List Sum
sums_from head [] = []
sums_from head (told ∷ rest) = sums_with head told.sums ++ sums_from (head + 1) rest
