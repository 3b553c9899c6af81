use Rattle.wm_given.proofs.Cutting.{cut_of}
use Rattle.wm_given.proofs.cuts.cut.Goals as goal

pub returns-in-None : goal.returns-in-None
returns-in-None g c = record { exact = λ z i k. c.in-None.ensures.exact i.x i.x_is }

pub returns-in-Some : goal.returns-in-Some
returns-in-Some g c = record { exact = cut_of (g.D.Domain.holds c.args.at.now) c.args.f.now c.in-Some.range c.args.all c.meet.result c.in-Some.ensures.exact c.meet.ensures.common c.meet.ensures.each }
