use Rattle.std.proofs.Common.{◌<◌, [], ◌∷◌, length, sym, subst}
use Rattle.wm_interval.specs.Holds.{IsHullOf}
use Rattle.wm_spans.specs.Exact.{IsSumValue}
use Rattle.wm_tied.specs.Pointed.{TiedView, In, HasPoint}
use Rattle.wm_tied.proofs.Forming.{tied_hull}
use Rattle.wm_tied.proofs.tied.Tied.tied_range.Goals as goal

pub returns-clause-hull : goal.returns-clause-hull
returns-clause-hull c = subst (λ (u : TiedView). HasPoint u → IsHullOf (IsSumValue (In u) (c.args.a ∷ c.args.b ∷ [])) c.sum.result) c.self.view_is
    (λ h. tied_hull (record { group = c.self.inside.group.items; ties = c.self.inside.ties; spans = c.self.inside.spans }) c.args.a c.args.b c.sum.result (subst (λ (u : TiedView). c.args.a.variable < length u.group) (sym c.self.view_is) c.requires.first) (subst (λ (u : TiedView). c.args.b.variable < length u.group) (sym c.self.view_is) c.requires.second) h c.sum.ensures.hull)
