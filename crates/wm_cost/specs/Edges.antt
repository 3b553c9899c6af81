-- Edges as paths see them: what they weigh, and whether a path may take them.
use Rattle.std.specs.Prelude.{ℕ, suc, Bool, false, ◌&&◌, nat_lt, List, [], ◌∷◌, Option, Some, None, slice_index_or}
use Rattle.wm_ops.specs.declared.words.Counted.{Counted}
use Rattle.wm_flow.specs.declared.action.Action.{Action}
use Rattle.wm_flow.specs.declared.action.Action.TheVariants as action
use Rattle.wm_flow.specs.declared.graph.Edge.{Edge}
use Rattle.wm_weights.specs.Table.{weight_of}
use Rattle.wm_ways.specs.Numbers.{or_nought}
use Rattle.wm_ways.specs.declared.ways.Way.{Way}

-- the word that an action counts
abbrev pub word_of : Action → Option Counted
word_of (action.Count word) = Some word
word_of (action.AssignForm target form) = None
word_of (action.Plain mark args target) = None
word_of (action.Cast form target) = None
word_of (action.AssignRange target range) = None
word_of (action.SetArray array summary) = None
word_of (action.Operate op args target overflow) = None
word_of (action.Read array target) = None
word_of (action.Write array value length) = None
word_of (action.Clear variables) = None
word_of (action.Keep form relation) = None
word_of (action.Test args form low high how) = None
word_of (action.Enter picks arrays arguments) = None
word_of (action.Leave call from_call from_exit arrays result) = None
word_of (action.Reset counters) = None
word_of (action.Turn growths) = None
word_of (action.Tie counter loop_step variable step) = None
word_of (action.Inputs scalars arrays) = None

abbrev pub word_weight : List (Option ℕ) → Option Counted → ℕ
word_weight weights None = 0
word_weight weights (Some word) = or_nought (weight_of weights word)

-- a path takes live edges that lead to a higher node; of a graph all edges but the back edges do
unfoldable pub way_of : List (Option ℕ) → (live : Bool) → Edge → Way
way_of weights live edge =
    record {
      source = edge.source;
      target = edge.target;
      weight = word_weight weights (word_of edge.action);
      «open» = live && nat_lt edge.source edge.target;
    }

-- the edges from a number on
abbrev pub ways_from : List (Option ℕ) → List Bool → (number : ℕ) → List Edge → List Way
ways_from weights live number [] = []
ways_from weights live number (edge ∷ rest) =
    way_of weights (slice_index_or live number false) edge ∷ ways_from weights live (suc number) rest
