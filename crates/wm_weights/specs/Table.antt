-- A weight for each counted word, or none, in the order of the words.
use Rattle.std.specs.Prelude.{ℕ, List, Option, Some, None, replicate, slice_get, slice_set, unwrap_or}
use Rattle.wm_ops.specs.declared.words.Counted.{Counted}
use Rattle.wm_ops.specs.Words.{word_number_of}

-- no word has a weight
abbrev pub none_given : List (Option ℕ)
none_given = replicate 48 None

-- each word has the weight 1
abbrev pub ones : List (Option ℕ)
ones = replicate 48 (Some 1)

-- the weight of a word
abbrev pub weight_of : List (Option ℕ) → Counted → Option ℕ
weight_of weights word = unwrap_or (slice_get weights (word_number_of word)) None

-- the weights with this one for the word
abbrev pub with_weight : List (Option ℕ) → Counted → ℕ → List (Option ℕ)
with_weight weights word weight = slice_set weights (word_number_of word) (Some weight)
