-- The worst choice: that of the greatest weight, and of those the one with the first list of edges.
use Rattle.std.specs.Prelude.{◌≡◌, ◌≢◌, ℕ, zero, suc, ◌≤◌, ◌⊎◌, true, false, List, [], ◌∷◌, length, Some, None, slice_get, slice_index_or}
use Rattle.wm_cost.specs.Bounds.{frame_bound}
use Rattle.wm_flow.specs.declared.graph.Bound.TheVariants.{At}
use Rattle.wm_flow.specs.declared.graph.Head.{Head}
use Rattle.wm_path.specs.Worst.{worst_path}
use Rattle.wm_path.specs.declared.choice.Body.{Body}
use Rattle.wm_path.specs.declared.choice.Choice.{Choice}
use Rattle.wm_path.specs.declared.choice.Choice.TheViews.{out-Choice}
use Rattle.wm_path_laws.specs.Choices.{IsLaidOut, Setting, IsLive, IsLoop, IsThrough, Leads, IsChoice, last_of, weight_of}
use Rattle.wm_path_laws.specs.Paths.{IsNotAfter}

-- A choice from a node to an end, of the greatest weight of all choices from the node to an end; and of all those of that
-- weight it has the first list of edges, in the order of lists.
pub record IsFirstOfGreatest (s : Setting) (from : ℕ) (IsEnd : ℕ → Type 0) (choice : Choice) : Type 0 where
  pub to : ℕ
  pub ends : IsEnd to
  pub is : IsChoice s from to choice
  pub greatest : (other : Choice) (end : ℕ) → IsEnd end → IsChoice s from end other → weight_of s other ≤ weight_of s choice
  pub before : (other : Choice) (end : ℕ) → IsEnd end → IsChoice s from end other → weight_of s other ≡ weight_of s choice → IsNotAfter (out-Choice choice).edges (out-Choice other).edges

-- the choice of each turn is the worst from the head to the source of its back edge
abbrev pub AreWorst : (IsInner : ℕ → (ℕ → Type 0) → Choice → Type 0) → Setting → List (Body Choice) → Type 0
AreWorst IsInner s [] = Unit {0}
AreWorst IsInner s (body ∷ rest) =
    ((head : Head) × (slice_get s.graph.heads body.head ≡ Some head) × IsInner head.node (λ node. node ≡ last_of s head) body.choice)
    × AreWorst IsInner s rest

-- the choices in it are picked by the same rule, through so many levels
abbrev pub IsWorstWithin : (levels : ℕ) → Setting → (from : ℕ) → (IsEnd : ℕ → Type 0) → Choice → Type 0
IsWorstWithin zero s from IsEnd choice = ⊥
IsWorstWithin (suc levels) s from IsEnd choice =
    IsFirstOfGreatest s from IsEnd choice × AreWorst (IsWorstWithin levels s) s (out-Choice choice).bodies

abbrev pub IsWorst : Setting → (from : ℕ) → (IsEnd : ℕ → Type 0) → Choice → Type 0
IsWorst s from IsEnd choice = (levels : ℕ) × IsWorstWithin levels s from IsEnd choice

-- the frame's end, which is the source of the frame head's back edge, and the nodes that stop
abbrev pub IsEndOf : Setting → (frame : Head) → ℕ → Type 0
IsEndOf s frame node = (node ≡ last_of s frame) ⊎ (slice_index_or s.facts.stops node false ≡ true)

-- each live head of a loop through whose body some list of edges leads turns
abbrev pub EachTurns : Setting → Type 0
EachTurns s =
    (k : ℕ) (head : Head) → IsLoop s k head → IsLive s head.entry → (way : List ℕ) → IsThrough s head way →
    slice_index_or s.facts.turns k None ≢ Some 0

-- no list of edges leads to an end
abbrev pub IsCutOff : Setting → (frame : Head) → Choice → Type 0
IsCutOff s frame choice =
    ((way : List ℕ) (end : ℕ) → IsEndOf s frame end → Leads s frame.node way end → ⊥)
    × ((out-Choice choice).edges ≡ []) × ((out-Choice choice).bodies ≡ [])

-- Where the bound is a number it is the weight of the choice that is given, and that is the worst of all choices from the
-- frame head to an end; where nothing leads to an end it is empty. There is an entry for each node.
abbrev pub GivesTheWorst : Type 0
GivesTheWorst =
    (s : Setting) (frame : Head) (choice : Choice) (bound : ℕ) →
    IsLaidOut s.graph → length s.facts.stops ≡ length s.graph.node_shape → EachTurns s →
    slice_get s.graph.heads 0 ≡ Some frame →
    frame_bound s.graph s.weights s.facts.turns s.facts.live s.facts.stops ≡ At bound →
    worst_path s.graph s.weights s.facts ≡ Some choice →
    (weight_of s choice ≡ bound) × (IsWorst s frame.node (IsEndOf s frame) choice ⊎ IsCutOff s frame choice)

-- No two choices are the worst of a frame.
abbrev pub OneIsWorst : Type 0
OneIsWorst =
    (s : Setting) (frame : Head) (a b : Choice) →
    IsLaidOut s.graph → IsWorst s frame.node (IsEndOf s frame) a → IsWorst s frame.node (IsEndOf s frame) b → a ≡ b

-- Where the bound is a number, each list of live edges without back edges behind the frame head is that of a choice; so there is a
-- choice through the body of a loop exactly where there is such a list.
abbrev pub EachListIsChosen : Type 0
EachListIsChosen =
    (s : Setting) (frame : Head) (bound : ℕ) →
    IsLaidOut s.graph → length s.facts.stops ≡ length s.graph.node_shape →
    slice_get s.graph.heads 0 ≡ Some frame →
    frame_bound s.graph s.weights s.facts.turns s.facts.live s.facts.stops ≡ At bound →
    (from : ℕ) (way : List ℕ) (to : ℕ) → frame.node ≤ from → Leads s from way to →
    ((choice : Choice) × ((out-Choice choice).edges ≡ way) × IsChoice s from to choice)
