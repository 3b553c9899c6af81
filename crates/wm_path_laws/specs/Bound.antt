-- The bound of a frame, by all choices.
use Rattle.std.specs.Prelude.{◌≡◌, ℕ, ◌<◌, ◌≤◌, ◌⊎◌, List, length, Some, None, slice_get, slice_index_or}
use Rattle.wm_cost.specs.Bounds.{frame_bound}
use Rattle.wm_flow.specs.declared.graph.Bound.{Bound}
use Rattle.wm_flow.specs.declared.graph.Bound.TheVariants.{At, NoTrips, TooLarge}
use Rattle.wm_flow.specs.declared.graph.Head.{Head}
use Rattle.wm_path.specs.declared.choice.Choice.{Choice}
use Rattle.wm_path_laws.specs.Choices.{IsLaidOut, Setting, IsLive, Leads, IsChoice, weight_of}
use Rattle.wm_path_laws.specs.Worst.{IsEndOf}

-- some choice from the frame head to an end has a weight of this kind
abbrev pub SomeWeighs : Setting → (frame : Head) → (ℕ → Type 0) → Type 0
SomeWeighs s frame IsSuch = (choice : Choice) × (end : ℕ) × IsEndOf s frame end × IsChoice s frame.node end choice × IsSuch (weight_of s choice)

-- no list of edges leads from the frame head to an end
abbrev pub NoneLeads : Setting → (frame : Head) → Type 0
NoneLeads s frame = (way : List ℕ) (end : ℕ) → IsEndOf s frame end → Leads s frame.node way end → ⊥

-- no choice weighs more, and one weighs so much; or there is none and the bound is 0
abbrev pub IsGreatestWeight : Setting → (frame : Head) → ℕ → Type 0
IsGreatestWeight s frame bound =
    ((choice : Choice) (end : ℕ) → IsEndOf s frame end → IsChoice s frame.node end choice → weight_of s choice ≤ bound)
    × (SomeWeighs s frame (λ weight. weight ≡ bound) ⊎ (NoneLeads s frame × (bound ≡ 0)))

-- the live head behind the frame head of a loop without a bound on its turns
abbrev pub IsEndless : Setting → (frame : Head) → (k : ℕ) → Head → (loop_id : ℕ) → Type 0
IsEndless s frame k head loop_id =
    (slice_get s.graph.heads k ≡ Some head) × (head.loop_id ≡ Some loop_id) × (frame.node < head.node) × IsLive s head.entry
    × (slice_index_or s.facts.turns k None ≡ None)

-- what a bound tells
abbrev pub Tells : Setting → (frame : Head) → Bound → Type 0
Tells s frame (At bound) =
    IsGreatestWeight s frame bound × (bound ≤ 1000000000000000) × ((k : ℕ) (head : Head) (loop_id : ℕ) → IsEndless s frame k head loop_id → ⊥)
Tells s frame (NoTrips loop_id) =
    ((k : ℕ) × (head : Head) × IsEndless s frame k head loop_id)
    × ((k : ℕ) (head : Head) (other : ℕ) → IsEndless s frame k head other → loop_id ≤ other)
Tells s frame TooLarge =
    SomeWeighs s frame (λ weight. 1000000000000000 < weight) × ((k : ℕ) (head : Head) (loop_id : ℕ) → IsEndless s frame k head loop_id → ⊥)

-- There is an entry for each node.
abbrev pub TellsTheBound : Type 0
TellsTheBound =
    (s : Setting) (frame : Head) →
    IsLaidOut s.graph → length s.facts.stops ≡ length s.graph.node_shape → slice_get s.graph.heads 0 ≡ Some frame →
    Tells s frame (frame_bound s.graph s.weights s.facts.turns s.facts.live s.facts.stops)
