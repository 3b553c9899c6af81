use Rattle.std.proofs.Common.{refl, sym}
use Rattle.wm_step.specs.Images.{IsBetween}
use Rattle.wm_left.specs.Taking.{TakenAt}
use Rattle.wm_filters.proofs.Staying.{stays_same, stays_more}
use Rattle.wm_left.proofs.Taken.{at_between}
use Rattle.wm_left.proofs.single.take_pick.Goals as goal

pub returns-in-None-clause-kept : goal.returns-in-None-clause-kept
returns-in-None-clause-kept g c = record { kept = λ p i h k. h }

pub returns-in-Some-clause-kept : goal.returns-in-Some-clause-kept
returns-in-Some-clause-kept g c = record { kept = λ p i h k. c.take_one.ensures.kept.kept p i h (at_between (g.D.Domain.holds c.args.from.now) c.args.v c.in-Some.w c.args.pick p c.in-Some.is k) }
