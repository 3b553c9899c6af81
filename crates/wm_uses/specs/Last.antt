-- How long the state of a node is needed.
use Rattle.std.specs.Prelude.{ℕ, ◌-◌, max, if◌then◌else◌, ◌==◌, List, [], ◌∷◌, length, Option, Some, None, slice_get, slice_set, slice_index_or}
use Rattle.wm_flow.specs.declared.action.Action.{Action}
use Rattle.wm_flow.specs.declared.action.Action.TheVariants as action
use Rattle.wm_flow.specs.declared.graph.Edge.{Edge}
use Rattle.wm_flow.specs.declared.graph.Head.{Head}
use Rattle.wm_flow.specs.declared.graph.Graph.{Graph}

-- ---- of one node

-- the call's node, whose state a return takes too
abbrev pub call_of : Action → Option ℕ
call_of (action.Leave call from_call from_exit arrays result) = Some call
call_of (action.AssignForm target form) = None
call_of (action.Plain mark args target) = None
call_of (action.Cast form target) = None
call_of (action.AssignRange target range) = None
call_of (action.SetArray array summary) = None
call_of (action.Operate op args target overflow) = None
call_of (action.Read array target) = None
call_of (action.Write array value length) = None
call_of (action.Clear variables) = None
call_of (action.Keep form relation) = None
call_of (action.Test args form low high how) = None
call_of (action.Count word) = None
call_of (action.Enter picks arrays arguments) = None
call_of (action.Reset counters) = None
call_of (action.Turn growths) = None
call_of (action.Tie counter loop_step variable step) = None
call_of (action.Inputs scalars arrays) = None

-- a node that needs the state of another one needs it from here on
abbrev pub reaching : (source target node last : ℕ) → ℕ
reaching source target node last = if source == node then max last target else last

abbrev pub returning : Option ℕ → (target node last : ℕ) → ℕ
returning None target node last = last
returning (Some call) target node last = reaching call target node last

-- the target of an edge needs the state of its source, and on a return that of the call
unfoldable pub through : Edge → (node last : ℕ) → ℕ
through edge node last =
    returning (call_of edge.action) edge.target node (reaching edge.source edge.target node last)

abbrev pub farthest : List Edge → (node last : ℕ) → ℕ
farthest [] node last = last
farthest (edge ∷ rest) node last = farthest rest node (through edge node last)

-- the last node of all needs the state of the source of a back edge
abbrev pub ending : (end : ℕ) → Option Edge → (node last : ℕ) → ℕ
ending end None node last = last
ending end (Some edge) node last = reaching edge.source end node last

unfoldable pub turning : List Edge → (end : ℕ) → Head → (node last : ℕ) → ℕ
turning edges end head node last = ending end (slice_get edges head.back) node last

abbrev pub turned : List Edge → (end : ℕ) → List Head → (node last : ℕ) → ℕ
turned edges end [] node last = last
turned edges end (head ∷ rest) node last = turned edges end rest node (turning edges end head node last)

-- the greatest node that needs the state of a node
abbrev pub last_use : Graph → ℕ → ℕ
last_use graph node =
    turned graph.edges (length graph.node_shape - 1) graph.heads node (farthest graph.edges node node)

-- ---- in a table

abbrev pub raised : List ℕ → (node until : ℕ) → List ℕ
raised last node until = slice_set last node (max (slice_index_or last node 0) until)
