use Rattle.std.proofs.Common.{◌≡◌, ◌∙◌, ◌<◌, ◌+◌, ℕ, length, vec_len, ap, sym, subst, arith}
use Rattle.wm_interval.specs.Holds.{IsHullOf}
use Rattle.wm_domain.specs.Changes.{IsValueOf}
use Rattle.wm_tied.specs.Pointed.{TiedView, In, HasPoint}
use Rattle.wm_tied.proofs.Cutting.{group_hull, single_range}
use Rattle.wm_tied.proofs.tied.Tied.range.Goals as goal

size_then : (c : goal.After-range) → vec_len c.self.inside.group ≡ length c.self.inside.group.items
size_then c = omega (arith, c.self.inside.group.ok.0)

size_else : (c : goal.After-range-2) → vec_len c.self.inside.group ≡ length c.self.inside.group.items
size_else c = omega (arith, c.self.inside.group.ok.0)

pub returns-then-v-len-clause-hull : goal.returns-then-v-len-clause-hull
returns-then-v-len-clause-hull c = subst (λ (u : TiedView). HasPoint u → IsHullOf (IsValueOf (In u) c.args.v) c.range.result) c.self.view_is
    (λ h. group_hull (record { group = c.self.inside.group.items; ties = c.self.inside.ties; spans = c.self.inside.spans }) c.args.v c.range.result (subst (λ (n : ℕ). c.args.v < n) (c.len.ensures ∙ size_then c) c.if-v-len.true) h c.range.ensures.hull)

pub returns-clause-hull : goal.returns-clause-hull
returns-clause-hull c = subst (λ (u : TiedView). HasPoint u → IsHullOf (IsValueOf (In u) c.args.v) c.range-2.result) c.self.view_is
    (λ h. single_range (record { group = c.self.inside.group.items; ties = c.self.inside.ties; spans = c.self.inside.spans }) c.args.v c.len.result c.len-2.result c.range-2.result (c.len.ensures ∙ size_else c) (c.len-2.ensures ∙ size_else c) c.if-v-len.false (subst (λ (u : TiedView). c.args.v < length u.group + length u.spans.full) (sym c.self.view_is) c.requires.inside) c.range-2.ensures.kept h c.range-2.ensures.value)
