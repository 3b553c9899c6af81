use Rattle.std.proofs.Common.{length}
use Rattle.wm_calls.specs.Rounds.{all_ending, ends_round}
use Rattle.wm_calls.proofs.Repeating.{over}
use Rattle.wm_calls.proofs.rounds.all_ending.Goals as goal

pub returns : goal.returns
unfolding all_ending
returns c =
    over (length c.args.calls.now) c.loop-round.round (ends_round c.args.calls.now) c.loop-round.marks.items _ c.loop-round-test.false c.loop-round.invariant
