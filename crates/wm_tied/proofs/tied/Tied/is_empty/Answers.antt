use Rattle.std.proofs.Common.{◌∙◌, sym, subst}
use Rattle.std.specs.Bool.{MatchBool}
use Rattle.wm_domain.specs.Points.{Point}
use Rattle.wm_tied.specs.Pointed.{TiedView, In, HasPoint}
use Rattle.wm_tied.proofs.Cutting.{bare_ties, some_point, match_as}
use Rattle.wm_tied.proofs.tied.Tied.is_empty.Goals as goal

pub returns-clause-points : goal.returns-clause-points
returns-clause-points c = subst (λ (u : TiedView). MatchBool c.is_empty-2.result ((p : Point) → In u p → ⊥) (HasPoint u)) c.self.view_is
    (match_as c.is_empty-2.result _ _ _ _ (bare_ties (record { group = c.self.inside.group.items; ties = c.self.inside.ties; spans = c.self.inside.spans })) (some_point (record { group = c.self.inside.group.items; ties = c.self.inside.ties; spans = c.self.inside.spans }) c.self.invariant c.is_empty.ensures.kept (sym c.is_empty.ensures.value ∙ c.if-is_empty.false)) c.is_empty-2.ensures.points)
