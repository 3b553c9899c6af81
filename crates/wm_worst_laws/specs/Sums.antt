-- The numbers of the word lines: how often each word is counted, and what it weighs.
use Rattle.std.specs.Prelude.{◌≡◌, ℕ, zero, suc, ◌+◌, ◌*◌, ◌<◌, ◌≤◌, ◌&&◌, if◌then◌else◌, nat_lt, List, Option, Some, None, length, slice_get}
use Rattle.wm_ops.specs.declared.words.Counted.{Counted}
use Rattle.wm_ops.specs.Words.{word_numbered}
use Rattle.wm_cost.specs.Bounds.{frame_bound}
use Rattle.wm_flow.specs.declared.graph.Bound.TheVariants.{At}
use Rattle.wm_flow.specs.declared.graph.Edge.{Edge}
use Rattle.wm_flow.specs.declared.graph.Head.{Head}
use Rattle.wm_path.specs.Worst.{worst_path}
use Rattle.wm_path.specs.declared.choice.Choice.{Choice}
use Rattle.wm_path_laws.specs.Choices.{IsLaidOut, Setting, weight_of as choice_weight}
use Rattle.wm_path_laws.specs.Worst.{EachTurns}
use Rattle.wm_ways.specs.Numbers.{cut, or_nought}
use Rattle.wm_weights.specs.Table.{weight_of}
use Rattle.wm_worst_text.specs.Times.{times_of}

-- a line is printed where both numbers are above 0
abbrev pub product : (times weight : ℕ) → ℕ
product times weight = if nat_lt 0 weight && nat_lt 0 times then times * weight else 0

-- the product of the two numbers of the line of a word, and nothing where it has no line
abbrev pub product_of : List Edge → List (Option ℕ) → Choice → Option Counted → ℕ
product_of edges weights choice None = 0
product_of edges weights choice (Some word) = product (cut (times_of edges word choice)) (or_nought (weight_of weights word))

-- the products of the lines of the words below a number
unfoldable pub products : List Edge → List (Option ℕ) → Choice → ℕ → ℕ
products edges weights choice zero = 0
products edges weights choice (suc number) =
    products edges weights choice number + product_of edges weights choice (word_numbered number)

-- the times of a word that weighs something are printed as they are
abbrev pub NoneIsCut : List Edge → List (Option ℕ) → Choice → Type 0
NoneIsCut edges weights choice =
    (word : Counted) → 0 < or_nought (weight_of weights word) → cut (times_of edges word choice) ≡ times_of edges word choice

-- of all 48 words, where the choice weighs at most 10^15
abbrev pub TimesAddUp : Type 0
TimesAddUp =
    (s : Setting) (choice : Choice) → choice_weight s choice ≤ 1000000000000000 →
    (products s.graph.edges s.weights choice 48 ≡ choice_weight s choice) × NoneIsCut s.graph.edges s.weights choice

-- where a bound is a number, of the choice that is given for it
abbrev pub MakesTheBound : Type 0
MakesTheBound =
    (s : Setting) (frame : Head) (choice : Choice) (bound : ℕ) →
    IsLaidOut s.graph → length s.facts.stops ≡ length s.graph.node_shape → EachTurns s →
    slice_get s.graph.heads 0 ≡ Some frame →
    frame_bound s.graph s.weights s.facts.turns s.facts.live s.facts.stops ≡ At bound →
    worst_path s.graph s.weights s.facts ≡ Some choice →
    (products s.graph.edges s.weights choice 48 ≡ bound) × NoneIsCut s.graph.edges s.weights choice
