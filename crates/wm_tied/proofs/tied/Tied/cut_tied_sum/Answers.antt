use Rattle.std.proofs.Common.{[], ◌∷◌, subst}
use Rattle.wm_domain.specs.Terms.{SumIn}
use Rattle.wm_tied.specs.Pointed.{TiedView, In}
use Rattle.wm_tied.specs.Leaving.{IsExactly}
use Rattle.wm_tied.proofs.Forming.{sum_kept, sum_exactly}
use Rattle.wm_tied.proofs.tied.Tied.cut_tied_sum.Goals as goal

pub invariant_of-self : goal.invariant_of-self
invariant_of-self c = sum_kept (record { group = c.self.inside.group.items; ties = c.self.inside.ties; spans = c.self.inside.spans }) c.self.invariant c.cut_sum.new.self c.args.a c.args.b c.args.r.low c.args.r.high c.cut_sum.ensures.variables c.cut_sum.ensures.points

pub returns-clause-points : goal.returns-clause-points
returns-clause-points c = subst (λ (u : TiedView). IsExactly (record { group = c.self.inside.group.items; ties = c.cut_sum.new.self; spans = c.self.inside.spans }) (SumIn (In u) (c.args.a ∷ c.args.b ∷ []) c.args.r.low c.args.r.high)) c.self.view_is
    (sum_exactly (record { group = c.self.inside.group.items; ties = c.self.inside.ties; spans = c.self.inside.spans }) c.self.invariant c.cut_sum.new.self c.args.a c.args.b c.args.r.low c.args.r.high c.cut_sum.ensures.variables c.cut_sum.ensures.points)
