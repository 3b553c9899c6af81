use Rattle.std.proofs.Common.{ℤ, pos, neg_ℤ, ◌+ℤ◌, subst, sym, arith}
use Rattle.std.specs.Prelude.{◌↔◌, MatchOption}
use Rattle.std.proofs.lemmas.Int.{ints}
use Rattle.wm_interval.specs.Holds.{Holds}
use Rattle.wm_domain.specs.declared.form.Relation.{Relation}
use Rattle.wm_domain.specs.declared.form.Relation.TheVariants.{NotEqual}
use Rattle.wm_spans.proofs.Sizes.{read_small}
use Rattle.wm_spans.specs.Exact.{MeetsIn}
use Rattle.wm_spans.proofs.Forming.{at_most_limit, equal_limit}
use Rattle.wm_spans.proofs.forms.limits.Goals as goal

pub returns-in-AtMost-clause-exact : goal.returns-in-AtMost-clause-exact
returns-in-AtMost-clause-exact c = subst (λ (r : Relation). (z : ℤ) → Holds c.args.values (z +ℤ c.args.constant) → Holds c.new.result z ↔ MeetsIn c.args.values r (z +ℤ c.args.constant)) (sym c.in-AtMost.is)
    (at_most_limit c.args.values c.new.result c.args.constant (neg_ℤ (pos 4503599627370496)) (omega (arith, ints, c.requires.values.low_size)) (omega (arith, ints)) (omega (arith, ints)))

pub returns-in-Equal-clause-exact : goal.returns-in-Equal-clause-exact
returns-in-Equal-clause-exact c = subst (λ (r : Relation). (z : ℤ) → Holds c.args.values (z +ℤ c.args.constant) → Holds c.new-in-Equal.result z ↔ MeetsIn c.args.values r (z +ℤ c.args.constant)) (sym c.in-Equal.is)
    (equal_limit c.args.values c.new-in-Equal.result c.args.constant (omega (arith, ints)) (omega (arith, ints)))

pub returns-in-NotEqual-clause-exact : goal.returns-in-NotEqual-clause-exact
returns-in-NotEqual-clause-exact c = subst (λ (r : Relation). MatchOption c.past_the_end.result ((y : ℤ) → Holds c.args.values y → MeetsIn c.args.values r y) (λ l. (z : ℤ) → Holds c.args.values (z +ℤ c.args.constant) → Holds l z ↔ MeetsIn c.args.values r (z +ℤ c.args.constant))) (sym c.in-NotEqual.is)
    (subst (λ (k : ℤ). MatchOption c.past_the_end.result ((y : ℤ) → Holds c.args.values y → MeetsIn c.args.values NotEqual y) (λ l. (z : ℤ) → Holds c.args.values (z +ℤ k) → Holds l z ↔ MeetsIn c.args.values NotEqual (z +ℤ k))) (read_small c.args.constant c.requires.constant) c.past_the_end.ensures.exact)
