use Rattle.std.proofs.Common.{rules, ◌≡◌}
use Rattle.wm_ops.specs.Words.{word_numbered}
use Rattle.wm_ops.proofs.NumberLemmas.{word_placed}
use Rattle.wm_ops.proofs.words.counted_at.Goals as goal

pub returns-else-number-lt-OPERATORS-clause-exact :
    goal.returns-else-number-lt-OPERATORS-clause-exact
returns-else-number-lt-OPERATORS-clause-exact c =
    let is : c.copied.result ≡ word_numbered c.args.number = search rules in
    word_placed _ _ is
