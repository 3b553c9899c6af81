-- What the words after the program's name ask for: seven forms, and nothing else.
use Rattle.std.specs.Prelude.{ℕ, if◌then◌else◌, List, [], ◌∷◌, Option, Some, None, codes}
use Rattle.std.specs.Str.{bytes_eq}
use Rattle.wm_words.specs.Stages.{stages_of}

-- a form of the words, with a file's name as its bytes
pub data Form : Type 0 where
  Prove : List ℕ → Form
  Check : List ℕ → Form
  Replay : List ℕ → List ℕ → Form
  Demo : ℕ → Form
  Worst : List ℕ → Form
  Headroom : List ℕ → Form
  Observe : List ℕ → List ℕ → Form
  BadWords : Form

abbrev pub demo_of : Option ℕ → Form
demo_of None = BadWords
demo_of (Some stages) = Demo stages

-- a verb and one word behind it
abbrev pub two_words : List ℕ → List ℕ → Form
two_words verb word =
    if bytes_eq verb (codes "prove") then Prove word
    else if bytes_eq verb (codes "check") then Check word
    else if bytes_eq verb (codes "demo") then demo_of (stages_of word)
    else if bytes_eq verb (codes "worst") then Worst word
    else if bytes_eq verb (codes "headroom") then Headroom word
    else BadWords

-- a verb and two words behind it
abbrev pub three_words : List ℕ → List ℕ → List ℕ → Form
three_words verb spec samples =
    if bytes_eq verb (codes "replay") then Replay spec samples
    else if bytes_eq verb (codes "observe") then Observe spec samples
    else BadWords

abbrev pub form_of : List (List ℕ) → Form
form_of (verb ∷ word ∷ []) = two_words verb word
form_of (verb ∷ spec ∷ samples ∷ []) = three_words verb spec samples
form_of _ = BadWords
