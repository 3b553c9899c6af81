use Rattle.std.proofs.Common.{◌∙◌, ◌++◌, sym, ap, arith}
use Rattle.std.proofs.lemmas.List.{append-nil}
use Rattle.wm_worst_text.specs.Text.{word_lines}
use Rattle.wm_worst_text.proofs.Lines.{no_words, word_turn}
use Rattle.wm_worst_text.proofs.words.push_word_lines.Goals as goal

pub loop-number-init : goal.loop-number-init
loop-number-init c =
    sym (ap (λ xs. c.args.text.now.items ++ xs) (no_words c.args.edges.now c.args.weights.now c.args.choice.now) ∙ append-nil c.args.text.now.items)

pub loop-number-preserved : goal.loop-number-preserved
loop-number-preserved c =
    word_turn c.args.edges.now c.args.weights.now c.args.choice.now c.loop-number.number c.args.text.now.items c.loop-number.text.items c.push_word_line_of.new.text.items c.counted_at.result
    c.loop-number.invariant c.counted_at.ensures.word c.in_ok-push_word_line_of.ensures

pub returns : goal.returns
returns c =
    c.loop-number.invariant ∙ ap (λ n. c.args.text.now.items ++ word_lines c.args.edges.now c.args.weights.now c.args.choice.now n) (omega arith)
