-- The text of the worst choices.
use Rattle.std.specs.Prelude.{ℕ, zero, suc, ◌+◌, Bool, ◌&&◌, nat_lt, if◌then◌else◌, List, [], ◌∷◌, ◌++◌, Option, Some, None, codes, decimal, slice_get}
use Rattle.wm_ops.specs.declared.words.Counted.{Counted}
use Rattle.wm_ops.specs.Words.{word_numbered, word_name_of}
use Rattle.wm_weights.specs.Table.{weight_of}
use Rattle.wm_ways.specs.Numbers.{cut, or_nought}
use Rattle.wm_flow.specs.declared.graph.Bound.{Bound}
use Rattle.wm_flow.specs.declared.graph.Bound.TheVariants.{At, NoTrips, TooLarge}
use Rattle.wm_flow.specs.declared.graph.Edge.{Edge}
use Rattle.wm_flow.specs.declared.graph.Graph.{Graph}
use Rattle.wm_flow.specs.declared.graph.Head.{Head}
use Rattle.wm_path.specs.declared.choice.Choice.{Choice}
use Rattle.wm_program.specs.declared.spec.Spec.{Spec}
use Rattle.wm_findings.specs.declared.findings.Findings.{Findings}
use Rattle.wm_findings_text.specs.Report.{bound_line, is_several}
use Rattle.wm_worst_text.specs.Times.{times_of, turns_of}

-- ---- words; numbers above 10^15 are all alike, and where the bound is a number none of them is printed

unfoldable pub word_text : Counted → (times weight : ℕ) → List ℕ
word_text word times weight = codes "word " ++ word_name_of word ++ codes " " ++ decimal times ++ codes " " ++ decimal weight ++ codes "\n"

abbrev pub word_line : Counted → (times weight : ℕ) → List ℕ
word_line word times weight = if nat_lt 0 weight && nat_lt 0 times then word_text word times weight else []

abbrev pub word_line_of : List Edge → List (Option ℕ) → Choice → Option Counted → List ℕ
word_line_of edges weights choice None = []
word_line_of edges weights choice (Some word) =
    word_line word (cut (times_of edges word choice)) (or_nought (weight_of weights word))

-- a line for each counted word below a number that has times and a weight
unfoldable pub word_lines : List Edge → List (Option ℕ) → Choice → ℕ → List ℕ
word_lines edges weights choice zero = []
word_lines edges weights choice (suc number) =
    word_lines edges weights choice number ++ word_line_of edges weights choice (word_numbered number)

-- ---- loops; loops and instances count from 1 in a text

unfoldable pub loop_text : (loop_id instance turns : ℕ) → List ℕ
loop_text loop_id instance turns =
    codes "loop " ++ decimal (loop_id + 1) ++ codes " instance " ++ decimal (instance + 1) ++ codes " turns " ++ decimal turns ++ codes "\n"

abbrev pub loop_named : Option ℕ → Option ℕ → Option ℕ → List ℕ
loop_named None instance turns = []
loop_named (Some loop_id) None turns = []
loop_named (Some loop_id) (Some instance) None = []
loop_named (Some loop_id) (Some instance) (Some turns) = loop_text loop_id instance turns

-- a line for each head that has a choice of its own; the first has the number k
abbrev pub loop_lines : Choice → ℕ → List Head → List ℕ
loop_lines choice k [] = []
loop_lines choice k (head ∷ heads) = loop_named head.loop_id head.instance (turns_of k choice) ++ loop_lines choice (k + 1) heads

-- ---- a frame function

unfoldable pub choice_lines : Graph → List (Option ℕ) → Choice → List ℕ
choice_lines graph weights choice = word_lines graph.edges weights choice 48 ++ loop_lines choice 0 graph.heads

abbrev pub chosen_lines : Graph → List (Option ℕ) → Option (Option Choice) → List ℕ
chosen_lines graph weights None = []
chosen_lines graph weights (Some None) = []
chosen_lines graph weights (Some (Some choice)) = choice_lines graph weights choice

-- what makes a bound is told where it is a number
abbrev pub made_lines : Graph → List (Option ℕ) → Option (Option Choice) → Bound → List ℕ
made_lines graph weights choice (At n) = chosen_lines graph weights choice
made_lines graph weights choice (NoTrips loop_id) = []
made_lines graph weights choice TooLarge = []

abbrev pub part_of : Graph → List (Option ℕ) → Bool → List ℕ → Option (Option Choice) → Option Bound → List ℕ
part_of graph weights several name choice None = []
part_of graph weights several name choice (Some bound) = bound_line several name bound ++ made_lines graph weights choice bound

-- a part for each function; the first has the number k, from 0
abbrev pub parts : Graph → List (Option ℕ) → Bool → List (Option Choice) → List Bound → ℕ → List (List ℕ) → List ℕ
parts graph weights several choices bounds k [] = []
parts graph weights several choices bounds k (name ∷ names) =
    part_of graph weights several name (slice_get choices k) (slice_get bounds k) ++ parts graph weights several choices bounds (k + 1) names

unfoldable pub worst_text : Graph → List (Option ℕ) → Spec → Findings → List (Option Choice) → List ℕ
worst_text graph weights spec found choices =
    codes "wmops worst 1\n" ++ parts graph weights (is_several spec.frames) choices found.bounds 0 spec.frames
