use Rattle.std.proofs.Common.{inl, inr, ◌≤◌, ◌<◌, ℕ, subst, length}
use Rattle.wm_tied.proofs.Bounding.{exactly_left}
use Rattle.wm_tied.proofs.Nearing.{lies_group}
use Rattle.wm_tied.proofs.tied.Tied.set_near_within.Goals as goal

pub returns-clause-left : goal.returns-clause-left
returns-clause-left c = exactly_left c.follow_tied.new.self _ c.follow_tied.ensures.points
