-- The first counted word, in their order, that a program uses and that has no weight.
use Rattle.std.specs.Prelude.{ℕ, zero, suc, ◌+◌, Bool, true, false, ◌&&◌, if◌then◌else◌, List, Option, Some, None}
use Rattle.wm_ops.specs.declared.words.Counted.{Counted}
use Rattle.wm_ops.specs.Words.{word_numbered}
use Rattle.wm_program.specs.declared.program.Program.{Program}
use Rattle.wm_program.specs.Used.{uses}
use Rattle.wm_weights.specs.Table.{weight_of}

abbrev pub is_absent : Option ℕ → Bool
is_absent None = true
is_absent (Some weight) = false

abbrev pub lacks : Program → List (Option ℕ) → Counted → Bool
lacks program weights word = uses program word && is_absent (weight_of weights word)

abbrev pub lacks_one : Program → List (Option ℕ) → Option Counted → Bool
lacks_one program weights None = false
lacks_one program weights (Some word) = lacks program weights word

-- the first of so many words from a number on
abbrev pub lacking_from : Program → List (Option ℕ) → ℕ → ℕ → Option Counted
lacking_from program weights number zero = None
lacking_from program weights number (suc left) =
    if lacks_one program weights (word_numbered number) then word_numbered number else lacking_from program weights (number + 1) left

unfoldable pub lacking : Program → List (Option ℕ) → Option Counted
lacking program weights = lacking_from program weights 0 48
