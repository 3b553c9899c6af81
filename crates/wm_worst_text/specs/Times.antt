-- How often a choice counts a word, and the turns of a loop on it.
use Rattle.std.specs.Prelude.{ℕ, ◌+◌, ◌*◌, ◌==◌, if◌then◌else◌, List, [], ◌∷◌, Option, Some, None, slice_get}
use Rattle.wm_ops.specs.declared.words.Counted.{Counted}
use Rattle.wm_ops.specs.Words.{word_number_of}
use Rattle.wm_flow.specs.declared.graph.Edge.{Edge}
use Rattle.wm_cost.specs.Edges.{word_of}
use Rattle.wm_path.specs.declared.choice.Body.{Body}
use Rattle.wm_path.specs.declared.choice.Choice.{Choice}
use Rattle.wm_path.specs.declared.choice.Choice.TheOpen.{Choice-F}
use Rattle.wm_path.specs.declared.choice.Choice.TheFolds.{fold-Choice}

abbrev pub once : Counted → Option Counted → ℕ
once word None = 0
once word (Some counted) = if word_number_of counted == word_number_of word then 1 else 0

abbrev pub word_in : Option Edge → Option Counted
word_in None = None
word_in (Some edge) = word_of edge.action

-- how often edges of these numbers count a word
abbrev pub times_on : List Edge → Counted → List ℕ → ℕ
times_on edges word [] = 0
times_on edges word (number ∷ rest) = once word (word_in (slice_get edges number)) + times_on edges word rest

-- a loop counts it in each of its turns
abbrev pub times_around : List (Body ℕ) → ℕ
times_around [] = 0
times_around (body ∷ rest) = body.turns * body.choice + times_around rest

abbrev pub times_step : List Edge → Counted → Choice-F ℕ → ℕ
times_step edges word it = times_on edges word it.edges + times_around it.bodies

abbrev pub times_of : List Edge → Counted → Choice → ℕ
times_of edges word = fold-Choice ℕ (times_step edges word)

abbrev pub or_else : Option ℕ → Option ℕ → Option ℕ
or_else None other = other
or_else (Some turns) other = Some turns

-- the turns of the loop of a head, where some choice has a choice for it
abbrev pub turns_among : ℕ → List (Body (Option ℕ)) → Option ℕ
turns_among head [] = None
turns_among head (body ∷ rest) =
    if body.head == head then Some body.turns else or_else body.choice (turns_among head rest)

abbrev pub turns_step : ℕ → Choice-F (Option ℕ) → Option ℕ
turns_step head it = turns_among head it.bodies

abbrev pub turns_of : ℕ → Choice → Option ℕ
turns_of head = fold-Choice (Option ℕ) (turns_step head)
