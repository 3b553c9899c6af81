use Rattle.wm_tied.proofs.Told.{left_here, left_there}
use Rattle.wm_tied.proofs.tied.Tied.join_with.Goals as goal

pub returns-then-is_empty-clause-left : goal.returns-then-is_empty-clause-left
returns-then-is_empty-clause-left c = left_here c.args.self.now c.args.other.now c.if-is_empty.ensures.points

pub returns-then-is_empty-2-clause-left : goal.returns-then-is_empty-2-clause-left
returns-then-is_empty-2-clause-left c = left_there c.args.self.now c.args.other.now c.become_like.new.self c.if-is_empty-2.ensures.points c.become_like.ensures.points
