use Rattle.std.proofs.Common.{◌<◌, ℤ, length, sym, subst}
use Rattle.wm_interval.specs.Holds.{Holds}
use Rattle.wm_domain.specs.Points.{range_at}
use Rattle.wm_domain.specs.Terms.{NearTerm}
use Rattle.wm_tied.specs.Pointed.{TiedView, In}
use Rattle.wm_tied.specs.Leaving.{IsExactly}
use Rattle.wm_tied.proofs.Nearing.{follow_kept, follow_exactly}
use Rattle.wm_tied.proofs.tied.Tied.follow_tied.Goals as goal

pub invariant_of-self : goal.invariant_of-self
invariant_of-self c = follow_kept (record { group = c.self.inside.group.items; ties = c.self.inside.ties; spans = c.self.inside.spans }) c.self.invariant c.follow.new.self c.args.v c.args.t c.args.d c.args.r (subst (λ (u : TiedView). c.args.v < length u.group) (sym c.self.view_is) c.requires.inside) (subst (λ (u : TiedView). (z : ℤ) → Holds c.args.r z → Holds (range_at u.group c.args.v) z) (sym c.self.view_is) c.requires.lies) c.follow.ensures.variables c.follow.ensures.points

pub returns-clause-points : goal.returns-clause-points
returns-clause-points c = subst (λ (u : TiedView). IsExactly (record { group = c.self.inside.group.items; ties = c.follow.new.self; spans = c.self.inside.spans }) (NearTerm (In u) c.args.v c.args.t c.args.d c.args.r)) c.self.view_is
    (follow_exactly (record { group = c.self.inside.group.items; ties = c.self.inside.ties; spans = c.self.inside.spans }) c.self.invariant c.follow.new.self c.args.v c.args.t c.args.d c.args.r (subst (λ (u : TiedView). c.args.v < length u.group) (sym c.self.view_is) c.requires.inside) (subst (λ (u : TiedView). (z : ℤ) → Holds c.args.r z → Holds (range_at u.group c.args.v) z) (sym c.self.view_is) c.requires.lies) c.follow.ensures.variables c.follow.ensures.points)
