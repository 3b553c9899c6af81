-- What the word of a name says.
use Rattle.std.proofs.Common.{ap, ◌∙◌}
use Rattle.wm_struct.specs.Names.{is_outermost, is_outermost_word}
use Rattle.wm_struct.proofs.names.is_outermost.Goals as goal

pub returns : goal.returns
unfolding is_outermost
returns c =
    record { outermost = c.is_outermost_word.ensures.outermost ∙ ap (λ w. is_outermost_word w c.args.name.now) c.counted_by_name.ensures.word }
