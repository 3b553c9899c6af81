use Rattle.std.proofs.Common.{subst}
use Rattle.wm_domain.specs.Points.{range_at}
use Rattle.wm_domain.specs.Changes.{Written}
use Rattle.wm_tied.specs.Pointed.{TiedView, In}
use Rattle.wm_tied.specs.Leaving.{IsLeft}
use Rattle.wm_tied.proofs.Told.{write_left}
use Rattle.wm_tied.proofs.tied.Tied.write.Goals as goal

pub returns-clause-left : goal.returns-clause-left
returns-clause-left c = subst (λ (u : TiedView). IsLeft (record { group = c.self.inside.group.items; ties = c.self.inside.ties; spans = c.write.new.self }) (Written (In u) (range_at u.spans.array_full c.args.a) c.args.a c.args.r c.args.count)) c.self.view_is
    (write_left (record { group = c.self.inside.group.items; ties = c.self.inside.ties; spans = c.self.inside.spans }) c.self.invariant c.write.new.self c.args.a c.args.r c.args.count c.write.ensures.full c.write.ensures.array_full c.write.ensures.kept c.write.ensures.near)
