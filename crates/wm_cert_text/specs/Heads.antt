-- The text of a head.
use Rattle.std.specs.Prelude.{ℕ, ◌+◌, List, [], ◌∷◌, ◌++◌, Option, Some, None, codes, decimal}
use Rattle.wm_cert_text.specs.declared.told.Head.{Head}
use Rattle.wm_cert_text.specs.declared.told.HeadName.{HeadName}
use Rattle.wm_cert_text.specs.declared.told.HeadName.TheVariants as name
use Rattle.wm_cert_text.specs.declared.told.State.{State}
use Rattle.wm_cert_text.specs.Lines.{numbered, bound_lines, pair_lines, array_lines, sum_lines}

abbrev pub name_words : HeadName → List ℕ
name_words name.Frame = codes " frame\n"
name_words (name.Loop loop_id instance) = numbered (codes " loop") (loop_id + 1) ++ numbered (codes " instance") (instance + 1) ++ codes "\n"

unfoldable pub head_line : ℕ → HeadName → List ℕ
head_line k it = numbered (codes "head") k ++ name_words it

unfoldable pub bounds_of : State → List ℕ
bounds_of state = bound_lines 1 state.bounds ++ pair_lines state.pairs ++ array_lines 1 state.arrays

abbrev pub state_lines : Option State → List ℕ
state_lines None = codes "empty\n"
state_lines (Some state) = bounds_of state

unfoldable pub head_text : ℕ → Head → List ℕ
head_text k head = head_line k head.name ++ sum_lines head.sums ++ state_lines head.state

-- the heads, the first of which has the number k
abbrev pub head_texts : ℕ → List Head → List ℕ
head_texts k [] = []
head_texts k (head ∷ rest) = head_text k head ++ head_texts (k + 1) rest
