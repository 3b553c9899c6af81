use Rattle.std.proofs.Common.{length}
use Rattle.wm_calls.specs.Rounds.{all_reaching, reach_round}
use Rattle.wm_calls.proofs.Repeating.{over}
use Rattle.wm_calls.proofs.rounds.all_reaching.Goals as goal

pub returns : goal.returns
unfolding all_reaching
returns c =
    over (length c.args.calls.now) c.loop-round.round (reach_round c.args.calls.now c.args.to) c.loop-round.marks.items _ c.loop-round-test.false c.loop-round.invariant
