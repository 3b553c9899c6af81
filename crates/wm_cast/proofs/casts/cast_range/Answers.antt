use Rattle.wm_cast.proofs.Narrowing.{cast_of}
use Rattle.wm_cast.proofs.casts.cast_range.Goals as goal

pub returns-in-None : goal.returns-in-None
returns-in-None g c = record { cast = c.in-None.ensures.exact }

pub returns-in-Some : goal.returns-in-Some
returns-in-Some g c = record { cast = cast_of (g.D.Domain.holds c.args.at.now) c.args.f.now c.in-Some.range c.narrowed.result c.in-Some.ensures.exact c.narrowed.ensures.narrow }
