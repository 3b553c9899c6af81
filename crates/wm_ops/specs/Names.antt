-- From the bytes of a name to what they name.
use Rattle.std.specs.Prelude.{ℕ, ◌≡◌, ◌⊎◌, List, [], ◌∷◌, Option, Some, None, if◌then◌else◌, codes}
use Rattle.std.specs.Option.{option_map_or}
use Rattle.std.specs.Str.{bytes_eq}
use Rattle.wm_ops.specs.declared.operators.Op.{Op}
use Rattle.wm_ops.specs.declared.operators.Op.TheVariants.{Round}
use Rattle.wm_ops.specs.declared.words.Counted.{Counted}
use Rattle.wm_ops.specs.declared.words.Counted.TheVariants.{Operator}
use Rattle.wm_ops.specs.Operators.{all_ops, name_of}
use Rattle.wm_ops.specs.Words.{other_words, word_name_of}

-- the first of these operators that has this name
abbrev pub first_named : List Op → List ℕ → Option Op
first_named [] bytes = None
first_named (op ∷ ops) bytes = if bytes_eq (name_of op) bytes then Some op else first_named ops bytes

-- the first of these counted words that has this name
abbrev pub first_word : List Counted → List ℕ → Option Counted
first_word [] bytes = None
first_word (word ∷ words) bytes = if bytes_eq (word_name_of word) bytes then Some word else first_word words bytes

-- the operator of a name; `round_fx` is another name of `round`
abbrev pub op_named : List ℕ → Option Op
op_named bytes = if bytes_eq bytes (codes "round_fx") then Some Round else first_named all_ops bytes

-- the counted word of a name
abbrev pub word_named : List ℕ → Option Counted
word_named bytes = option_map_or (λ op. Some (Operator op)) (op_named bytes) (first_word other_words bytes)

-- the bytes name the operator: they are its C name, or the other name of `round`
abbrev pub Names : Op → List ℕ → Type 0
Names op bytes = (bytes ≡ name_of op) ⊎ ((op ≡ Round) × (bytes ≡ codes "round_fx"))

-- the bytes name the counted word
abbrev pub NamesWord : Counted → List ℕ → Type 0
NamesWord word bytes = (bytes ≡ word_name_of word) ⊎ ((word ≡ Operator Round) × (bytes ≡ codes "round_fx"))
