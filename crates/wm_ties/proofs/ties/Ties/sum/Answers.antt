use Rattle.std.proofs.Common.{◌≡◌, ◌∙◌, ◌<◌, ℕ, ℤ, ap, sym, subst}
use Rattle.wm_interval.specs.Holds.{IsHullOf}
use Rattle.wm_octagon.specs.View.{OctagonView}
use Rattle.wm_ties.specs.Exact.{IsPairValue}
use Rattle.wm_ties.proofs.Making.{low_fits, low_read, high_read, order_read, sum_size}
use Rattle.wm_ties.proofs.Calls.{IsSmall, pair_hull, high_small, low_small, ends_order}
use Rattle.wm_ties.proofs.ties.Ties.sum.Goals as goal

first_in : (c : goal.In-Some-bound) → c.args.a.variable < c.self.inside.octagon.variables
first_in c = subst (λ (k : ℕ). c.args.a.variable < k) (sym (ap (λ (u : OctagonView). u.variables) c.self.view_is)) c.requires.first

second_in : (c : goal.In-Some-bound) → c.args.b.variable < c.self.inside.octagon.variables
second_in c = subst (λ (k : ℕ). c.args.b.variable < k) (sym (ap (λ (u : OctagonView). u.variables) c.self.view_is)) c.requires.second

low_is : (c : goal.In-Some-bound) → IsSmall c.in-Some-bound.low
low_is c = low_small c.self.inside.octagon c.args.a c.args.b c.side.result c.side-2.result c.side.ensures.value c.side-2.ensures.value c.against.result c.against-in-Some.result c.against.ensures.value c.against-in-Some.ensures.value
    c.in-Some-bound.low c.self.invariant.narrow (first_in c) (second_in c) c.in-Some-bound.ensures.greatest

high_is : (c : goal.In-Some-bound) → IsSmall c.in-Some.high
high_is c = high_small c.self.inside.octagon c.args.a c.args.b c.side.result c.side-2.result c.side.ensures.value c.side-2.ensures.value c.against.result c.against-in-Some.result c.against.ensures.value c.against-in-Some.ensures.value
    c.in-Some.high c.self.invariant.narrow (first_in c) (second_in c) c.in-Some.ensures.greatest

pub overflow_sub-low : goal.overflow_sub-low
overflow_sub-low c = low_fits c.in-Some-bound.low (low_is c)

pub new-requires-in-Some-bound : goal.new-requires-in-Some-bound
new-requires-in-Some-bound c = order_read c.in-Some-bound.low c.in-Some.high (low_is c) (high_is c)
    (ends_order c.self.inside.octagon c.args.a c.args.b c.side.result c.side-2.result c.side.ensures.value c.side-2.ensures.value c.against.result c.against-in-Some.result c.against.ensures.value c.against-in-Some.ensures.value
    c.in-Some-bound.low c.in-Some.high c.in-Some.ensures.greatest c.in-Some-bound.ensures.greatest)

pub returns-in-Some-bound-clause-hull : goal.returns-in-Some-bound-clause-hull
returns-in-Some-bound-clause-hull c = λ some. subst (λ (u : OctagonView). IsHullOf (IsPairValue u c.args.a c.args.b) c.new-in-Some-bound.result) c.self.view_is
    (pair_hull c.self.inside.octagon c.args.a c.args.b c.side.result c.side-2.result c.side.ensures.value c.side-2.ensures.value c.against.result c.against-in-Some.result c.against.ensures.value c.against-in-Some.ensures.value
    c.new-in-Some-bound.result c.in-Some-bound.low c.in-Some.high (c.new-in-Some-bound.ensures.low ∙ low_read c.in-Some-bound.low (low_is c.before)) (c.new-in-Some-bound.ensures.high ∙ high_read c.in-Some.high (high_is c.before)) c.in-Some.ensures.greatest c.in-Some-bound.ensures.greatest)

pub returns-in-Some-bound-clause-size : goal.returns-in-Some-bound-clause-size
returns-in-Some-bound-clause-size c = sum_size c.new-in-Some-bound.result c.in-Some-bound.low c.in-Some.high (low_is c.before) (high_is c.before) (c.new-in-Some-bound.ensures.low ∙ low_read c.in-Some-bound.low (low_is c.before)) (c.new-in-Some-bound.ensures.high ∙ high_read c.in-Some.high (high_is c.before))
