use Rattle.std.proofs.Common.{subst}
use Rattle.wm_tied.specs.Pointed.{TiedView, In}
use Rattle.wm_tied.specs.Leaving.{IsExactly}
use Rattle.wm_domain.specs.Changes.{ArraySet}
use Rattle.wm_tied.proofs.Cutting.{set_array_exactly}
use Rattle.wm_tied.proofs.tied.Tied.set_array.Goals as goal

pub returns-clause-points : goal.returns-clause-points
returns-clause-points c = subst (λ (u : TiedView). IsExactly (record { group = c.self.inside.group.items; ties = c.self.inside.ties; spans = c.set_array.new.self }) (ArraySet (In u) c.args.a c.args.s)) c.self.view_is
    (set_array_exactly (record { group = c.self.inside.group.items; ties = c.self.inside.ties; spans = c.self.inside.spans }) c.self.invariant c.set_array.new.self c.args.a c.args.s c.set_array.ensures.points)
