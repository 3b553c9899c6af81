-- One counted word more.
use Rattle.std.proofs.Common.{◌≡◌, ℕ, suc, ◌+◌, List, [], ◌++◌, Option, refl, sym, ap, ◌∙◌, append_assoc, arith}
use Rattle.wm_ops.specs.declared.words.Counted.{Counted}
use Rattle.wm_ops.specs.Words.{word_numbered}
use Rattle.wm_flow.specs.declared.graph.Edge.{Edge}
use Rattle.wm_path.specs.declared.choice.Choice.{Choice}
use Rattle.wm_worst_text.specs.Text.{word_line_of, word_lines}

one_word : (edges : List Edge) (weights : List (Option ℕ)) (choice : Choice) (k : ℕ) → word_lines edges weights choice (suc k) ≡ word_lines edges weights choice k ++ word_line_of edges weights choice (word_numbered k)
unfolding word_lines
one_word edges weights choice k = refl

pub word_turn : (edges : List Edge) (weights : List (Option ℕ)) (choice : Choice) (k : ℕ) (text old new : List ℕ) (word : Option Counted) → old ≡ text ++ word_lines edges weights choice k → word ≡ word_numbered k → new ≡ old ++ word_line_of edges weights choice word → new ≡ text ++ word_lines edges weights choice (k + 1)
word_turn edges weights choice k text old new word before is grown =
    let same : suc k ≡ k + 1 = omega arith in
    grown ∙ ap (λ xs. xs ++ word_line_of edges weights choice word) before
    ∙ ap (λ (w : Option Counted). (text ++ word_lines edges weights choice k) ++ word_line_of edges weights choice w) is
    ∙ append_assoc text (word_lines edges weights choice k) (word_line_of edges weights choice (word_numbered k))
    ∙ ap (λ xs. text ++ xs) (sym (one_word edges weights choice k) ∙ ap (word_lines edges weights choice) same)

pub no_words : (edges : List Edge) (weights : List (Option ℕ)) (choice : Choice) → word_lines edges weights choice 0 ≡ []
unfolding word_lines
no_words edges weights choice = refl
