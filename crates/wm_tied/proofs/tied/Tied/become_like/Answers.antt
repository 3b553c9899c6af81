use Rattle.std.proofs.Common.{◌≡◌, ◌∙◌, ap, sym, subst}
use Rattle.std.specs.Prelude.{◌↔◌}
use Rattle.wm_domain.specs.Points.{Point}
use Rattle.wm_tied.specs.Pointed.{TiedView, In, HasPoint}
use Rattle.wm_tied.proofs.Told.{like_tied, like_points}
use Rattle.wm_tied.proofs.tied.Tied.become_like.Goals as goal

pub invariant_of-self : goal.invariant_of-self
invariant_of-self c = like_tied (record { group = c.self.inside.group.items; ties = c.self.inside.ties; spans = c.self.inside.spans }) (record { group = c.other.inside.group.items; ties = c.other.inside.ties; spans = c.other.inside.spans }) c.become_like.new.self (ap (λ (u : TiedView). u.group) c.other.view_is ∙ c.requires.alike.group ∙ sym (ap (λ (u : TiedView). u.group) c.self.view_is)) c.self.invariant c.other.invariant c.become_like.ensures.variables c.become_like.ensures.points

pub returns-clause-points : goal.returns-clause-points
returns-clause-points c = subst (λ (u : TiedView). (p : Point) → In (record { group = c.self.inside.group.items; ties = c.become_like.new.self; spans = c.become_like-2.new.self }) p ↔ In u p) c.other.view_is
    (like_points (record { group = c.self.inside.group.items; ties = c.self.inside.ties; spans = c.self.inside.spans }) (record { group = c.other.inside.group.items; ties = c.other.inside.ties; spans = c.other.inside.spans }) c.become_like.new.self c.become_like-2.new.self (ap (λ (u : TiedView). u.group) c.other.view_is ∙ c.requires.alike.group ∙ sym (ap (λ (u : TiedView). u.group) c.self.view_is)) (invariant_of-self c) c.other.invariant c.become_like.ensures.points c.become_like-2.ensures.value (subst HasPoint (sym c.other.view_is) c.requires.some))
