-- The turns of the loops of heads, by the ranges of their counters in the states of the heads.
use Rattle.std.specs.Prelude.{ℕ, ◌≡◌, List, [], ◌∷◌, Option, Some, None, length, slice_get}
use Rattle.wm_interval.specs.declared.Interval.{Interval}
use Rattle.wm_interval.specs.Holds.{IsHullOf}
use Rattle.wm_domain.specs.Points.{Point}
use Rattle.wm_domain.specs.States.{IsBare}
use Rattle.wm_domain.specs.Changes.{IsValueOf}
use Rattle.wm_flow.specs.declared.action.Action.{Action}
use Rattle.wm_flow.specs.declared.action.Action.TheVariants as actions
use Rattle.wm_flow.specs.declared.action.Growth.{Growth}
use Rattle.wm_flow.specs.declared.graph.Edge.{Edge}
use Rattle.wm_flow.specs.declared.graph.Head.{Head}
use Rattle.wm_flow.specs.declared.graph.Graph.{Graph}
use Rattle.wm_trip.specs.Turns.{turns_up_to}

abbrev pub first_growth : List Growth → Option Growth
first_growth [] = None
first_growth (growth ∷ rest) = Some growth

-- what a turn adds to the counter of the loop, which is the first that grows
abbrev pub growth_of : Action → Option Growth
growth_of (actions.AssignForm target form) = None
growth_of (actions.Plain mark args target) = None
growth_of (actions.Cast form target) = None
growth_of (actions.AssignRange target range) = None
growth_of (actions.SetArray array summary) = None
growth_of (actions.Operate op args target overflow) = None
growth_of (actions.Read array target) = None
growth_of (actions.Write array value length) = None
growth_of (actions.Clear variables) = None
growth_of (actions.Keep form relation) = None
growth_of (actions.Test args form low high how) = None
growth_of (actions.Count word) = None
growth_of (actions.Enter picks arrays arguments) = None
growth_of (actions.Leave call from_call from_exit arrays result) = None
growth_of (actions.Reset counters) = None
growth_of (actions.Turn growths) = first_growth growths
growth_of (actions.Tie counter loop_step variable step) = None
growth_of (actions.Inputs scalars arrays) = None

abbrev pub counter_at : Option Edge → Option Growth
counter_at None = None
counter_at (Some edge) = growth_of edge.action

-- the counter of a head's loop, which its back edge turns
abbrev pub counter_of : Graph → Head → Option Growth
counter_of graph head = counter_at (slice_get graph.edges head.back)

module _ {S : Type 0} (Has : S → Point → Type 0) where
  -- the turns that the upper bound of the counter allows; none where the state has no point
  pub record IsTurns (growth : Growth) (state : S) (turns : Option ℕ) : Type 0 where
    pub bare : IsBare (Has state) → turns ≡ None
    pub exact : (range : Interval) → IsHullOf (IsValueOf (Has state) growth.variable) range → turns ≡ turns_up_to range.high growth.step

  -- none at the head of the frames
  abbrev pub IsTurnsOf : (loop_id : Option ℕ) → Option Growth → S → (turns : Option ℕ) → Type 0
  IsTurnsOf None growth state turns = turns ≡ None
  IsTurnsOf (Some loop_id) None state turns = ⊥
  IsTurnsOf (Some loop_id) (Some growth) state turns = IsTurns growth state turns

  pub record AreTurns (graph : Graph) (states : List S) (turns : List (Option ℕ)) : Type 0 where
    pub count : length turns ≡ length graph.heads
    pub each : (k : ℕ) (head : Head) (state : S) (own : Option ℕ) → slice_get graph.heads k ≡ Some head → slice_get states k ≡ Some state → slice_get turns k ≡ Some own
        → IsTurnsOf head.loop_id (counter_of graph head) state own
