use Rattle.std.proofs.Common.{◌≡◌, ◌∙◌, ◌<◌, List, length, ap, sym, subst}
use Rattle.wm_tied.specs.Pointed.{TiedView, In}
use Rattle.wm_tied.specs.Leaving.{IsExactly}
use Rattle.wm_interval.specs.declared.Interval.{Interval}
use Rattle.wm_domain.specs.Points.{range_at}
use Rattle.wm_domain.specs.Changes.{Freed}
use Rattle.wm_tied.proofs.Cutting.{free_tied_kept, free_tied_exactly}
use Rattle.wm_tied.proofs.tied.Tied.free_tied.Goals as goal

pub invariant_of-self-in-Some : goal.invariant_of-self-in-Some
invariant_of-self-in-Some c = free_tied_kept (record { group = c.self.inside.group.items; ties = c.self.inside.ties; spans = c.self.inside.spans }) c.self.invariant c.args.v c.args.r c.at.result (subst (λ (u : TiedView). c.args.v < length u.group) (sym c.self.view_is) c.requires.inside)
    (c.at.ensures ∙ ap (λ (xs : List Interval). range_at xs c.args.v) c.as_slice.ensures.value) c.in-Some.common c.in-Some.ensures.each c.free.new.self c.free.ensures.variables c.free.ensures.points

pub returns-in-Some-clause-points : goal.returns-in-Some-clause-points
returns-in-Some-clause-points c = subst (λ (u : TiedView). IsExactly (record { group = c.self.inside.group.items; ties = c.free.new.self; spans = c.self.inside.spans }) (Freed (In u) c.args.v c.args.r)) c.self.view_is
    (free_tied_exactly (record { group = c.self.inside.group.items; ties = c.self.inside.ties; spans = c.self.inside.spans }) c.self.invariant c.args.v c.args.r c.at.result (subst (λ (u : TiedView). c.args.v < length u.group) (sym c.self.view_is) c.requires.inside)
    (c.at.ensures ∙ ap (λ (xs : List Interval). range_at xs c.args.v) c.as_slice.ensures.value) c.in-Some.common c.in-Some.ensures.each c.free.new.self c.free.ensures.variables c.free.ensures.points)
