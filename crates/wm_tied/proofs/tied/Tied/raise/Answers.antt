use Rattle.std.proofs.Common.{◌≡◌, ◌∙◌, ap, sym, subst, refl}
use Rattle.wm_domain.specs.Changes.{InEither}
use Rattle.wm_tied.specs.Pointed.{TiedView, In, HasPoint}
use Rattle.wm_tied.specs.Leaving.{IsLeft}
use Rattle.wm_tied.proofs.Told.{raise_tied, raise_left}
use Rattle.wm_tied.proofs.tied.Tied.raise.Goals as goal

pub invariant_of-self : goal.invariant_of-self
invariant_of-self c = raise_tied (record { group = c.self.inside.group.items; ties = c.self.inside.ties; spans = c.self.inside.spans }) (record { group = c.other.inside.group.items; ties = c.other.inside.ties; spans = c.other.inside.spans }) c.join_with.new.self (ap (λ (u : TiedView). u.group) c.other.view_is ∙ c.requires.alike.group ∙ sym (ap (λ (u : TiedView). u.group) c.self.view_is)) c.self.invariant c.other.invariant c.join_with.ensures.variables c.join_with.ensures.least

joined : (c : goal.After-join_with-2) → IsLeft (record { group = c.self.inside.group.items; ties = c.join_with.new.self; spans = c.join_with-2.new.self }) (InEither (In (record { group = c.self.inside.group.items; ties = c.self.inside.ties; spans = c.self.inside.spans })) (In (record { group = c.other.inside.group.items; ties = c.other.inside.ties; spans = c.other.inside.spans })))
joined c = raise_left (record { group = c.self.inside.group.items; ties = c.self.inside.ties; spans = c.self.inside.spans }) (record { group = c.other.inside.group.items; ties = c.other.inside.ties; spans = c.other.inside.spans }) (record { group = c.self.inside.group.items; ties = c.join_with.new.self; spans = c.join_with-2.new.self }) (ap (λ (u : TiedView). u.group) c.other.view_is ∙ c.requires.alike.group ∙ sym (ap (λ (u : TiedView). u.group) c.self.view_is))
    (subst HasPoint (sym c.self.view_is) c.requires.here) (subst HasPoint (sym c.other.view_is) c.requires.there) refl (ap (λ (u : TiedView). u.spans.full) c.other.view_is ∙ c.requires.alike.full ∙ sym (ap (λ (u : TiedView). u.spans.full) c.self.view_is)) (ap (λ (u : TiedView). u.spans.array_full) c.other.view_is ∙ c.requires.alike.array_full ∙ sym (ap (λ (u : TiedView). u.spans.array_full) c.self.view_is)) c.join_with-2.ensures.full c.join_with-2.ensures.array_full (invariant_of-self c)
    c.join_with.ensures.least c.join_with-2.ensures.kept c.join_with-2.ensures.spanned

pub returns-clause-left : goal.returns-clause-left
returns-clause-left c =
    subst (λ (u : TiedView). IsLeft (record { group = c.self.inside.group.items; ties = c.join_with.new.self; spans = c.join_with-2.new.self }) (InEither (In u) (In c.args.other.now))) c.self.view_is
    (subst (λ (u : TiedView). IsLeft (record { group = c.self.inside.group.items; ties = c.join_with.new.self; spans = c.join_with-2.new.self }) (InEither (In (record { group = c.self.inside.group.items; ties = c.self.inside.ties; spans = c.self.inside.spans })) (In u))) c.other.view_is (joined c))
