use Rattle.wm_left.proofs.Taken.{between_holds}
use Rattle.wm_left.proofs.single.take_one.Goals as goal

pub returns-in-None-clause-kept : goal.returns-in-None-clause-kept
returns-in-None-clause-kept g c = record { kept = λ p i h k. absurd (c.in-None.ensures.exact k.x k.x_is) }

pub returns-in-Some-clause-kept : goal.returns-in-Some-clause-kept
returns-in-Some-clause-kept g c = record { kept = λ p i h k. c.put_range.ensures.kept p i h (between_holds (g.D.Domain.holds c.args.from.now) c.args.w c.in-Some.r (p.values c.args.v) c.in-Some.ensures.exact k) }
