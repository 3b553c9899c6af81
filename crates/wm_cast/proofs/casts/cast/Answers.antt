use Rattle.std.proofs.Common.{ℤ}
use Rattle.wm_interval.specs.Holds.{Holds}
use Rattle.wm_domain.specs.Points.{Point}
use Rattle.wm_assign.specs.Giving.{Sets}
use Rattle.wm_carry.proofs.Reaching.{bare_least}
use Rattle.wm_assign.proofs.Setting.{keeps_more}
use Rattle.wm_assign.proofs.Leasts.{least_more}
use Rattle.wm_cast.specs.Casting.{InCast}
use Rattle.wm_cast.proofs.casts.cast.Goals as goal

pub returns-in_ok-state-in-None-clause-sound : goal.returns-in_ok-state-in-None-clause-sound
returns-in_ok-state-in-None-clause-sound g c = record { kept = λ p i h. absurd (c.in-None.ensures.cast h.was h.carried.point) }

pub any-requires-clause-range : goal.any-requires-clause-range
any-requires-clause-range g c = c.in-Some.ensures.cast.0

pub returns-in_ok-state-in-Some-clause-sound : goal.returns-in_ok-state-in-Some-clause-sound
returns-in_ok-state-in-Some-clause-sound g c =
    let Has = g.D.Domain.holds c.args.at.now in
    keeps_more g.D.Domain.holds g.D.Domain.shape_of c.in_ok-state-in-Some.state c.args.way.now.source.now c.args.way.now.target.now Has c.args.target
    (λ (was : Point) (z : ℤ). Holds c.in-Some.r z) (λ (was : Point) (z : ℤ). InCast Has c.args.f.now z)
    (λ was p h i m. (c.in-Some.ensures.cast.1 (p.values c.args.target)).0 m) c.in_ok-state-in-Some.ensures.sound

pub returns-in_ok-state-in-None-clause-least : goal.returns-in_ok-state-in-None-clause-least
returns-in_ok-state-in-None-clause-least g c = bare_least g.D.Domain.holds g.D.Domain.shape_of c.in_ok-state-in-None.state
    (Sets c.args.way.now.source.now c.args.way.now.target.now (g.D.Domain.holds c.args.at.now) c.args.target (λ (was : Point) (z : ℤ). InCast (g.D.Domain.holds c.args.at.now) c.args.f.now z))
    c.in_ok-state-in-None.ensures.bare

pub returns-in_ok-state-in-Some-clause-least : goal.returns-in_ok-state-in-Some-clause-least
returns-in_ok-state-in-Some-clause-least g c =
    let Has = g.D.Domain.holds c.args.at.now in
    least_more g.D.Domain.holds g.D.Domain.shape_of c.in_ok-state-in-Some.state c.args.way.now.source.now c.args.way.now.target.now Has c.args.target
    (λ (was : Point) (z : ℤ). Holds c.in-Some.r z) (λ (was : Point) (z : ℤ). InCast Has c.args.f.now z)
    (λ was p h i m. (c.in-Some.ensures.cast.1 (p.values c.args.target)).1 m) c.in_ok-state-in-Some.ensures.least
