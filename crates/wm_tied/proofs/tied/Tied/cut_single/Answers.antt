use Rattle.std.proofs.Common.{◌+◌, length, subst}
use Rattle.wm_tied.specs.Pointed.{TiedView, In}
use Rattle.wm_tied.specs.Leaving.{IsExactly}
use Rattle.wm_spans.specs.Exact.{Bounded}
use Rattle.wm_tied.proofs.Cutting.{cut_single_exactly}
use Rattle.wm_tied.proofs.tied.Tied.cut_single.Goals as goal

pub returns-clause-points : goal.returns-clause-points
returns-clause-points c = subst (λ (u : TiedView). IsExactly (record { group = c.self.inside.group.items; ties = c.self.inside.ties; spans = c.cut.new.self }) (Bounded (In u) (length u.group + c.args.k) c.args.r)) c.self.view_is
    (cut_single_exactly (record { group = c.self.inside.group.items; ties = c.self.inside.ties; spans = c.self.inside.spans }) c.self.invariant c.cut.new.self c.args.k c.args.r c.cut.ensures.points)
