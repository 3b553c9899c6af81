use Rattle.wm_entered.proofs.Giving.{range_holds}
use Rattle.wm_entered.proofs.values.put_any.Goals as goal

pub returns-in-None-clause-kept : goal.returns-in-None-clause-kept
returns-in-None-clause-kept g c = record { kept = λ p i h k. absurd (c.in-None.ensures.exact k.x k.x_is) }

pub returns-in-Some-clause-kept : goal.returns-in-Some-clause-kept
returns-in-Some-clause-kept g c = record { kept = λ p i h k. c.put_range.ensures.kept p i h (range_holds (g.D.Domain.holds c.args.at.now) c.args.f.now c.in-Some.r (p.values c.args.v) c.in-Some.ensures.exact k) }
