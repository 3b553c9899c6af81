use Rattle.std.proofs.Common.{subst, length, ℤ, ◌+ℤ◌, ◌↔◌}
use Rattle.std.specs.Prelude.{List}
use Rattle.wm_domain.specs.declared.form.Term.{Term}
use Rattle.wm_domain.specs.Points.{Point}
use Rattle.wm_domain.specs.Forms.{IsSimple}
use Rattle.wm_domain.specs.Terms.{SumIn}
use Rattle.wm_spans.specs.Spanned.{In}
use Rattle.wm_spans.specs.Exact.{IsSpanned, MeetsIn}
use Rattle.wm_interval.specs.Holds.{Holds}
use Rattle.wm_spans.proofs.Sizes.{read_small}
use Rattle.wm_spans.proofs.Forming.{kept_all, kept_between, made_all, made_between}
use Rattle.wm_spans.proofs.spans.Spans.keep.Goals as goal

pub returns-in-None-clause-leaves : goal.returns-in-None-clause-leaves
returns-in-None-clause-leaves c = kept_all c.args.self.now c.args.f.now c.args.r c.form_range-values.result c.form_range-values.ensures.hull c.in-None.ensures.exact

pub returns-in-None-clause-made : goal.returns-in-None-clause-made
returns-in-None-clause-made c = λ simple. made_all c.args.self.now c.args.f.now c.args.r c.form_range-values.result c.form_range-values.ensures.hull c.in-None.ensures.exact

pub returns-in-Some-clause-leaves : goal.returns-in-Some-clause-leaves
returns-in-Some-clause-leaves c =
    kept_between c.args.self.now c.args.f.now c.args.r c.form_range-values.result c.form_range-values.ensures.hull c.keep_between.new.self c.in-Some.between
    (subst (λ (k : ℤ). (z : ℤ) → Holds c.form_range-values.result (z +ℤ k) → Holds c.in-Some.between z ↔ MeetsIn c.form_range-values.result c.args.r (z +ℤ k)) (read_small c.args.f.now.constant c.requires.form.small) c.in-Some.ensures.exact)
    c.keep_between.ensures.full c.keep_between.ensures.array_full
    (subst (λ (ts : List Term). (p : Point) → SumIn (In c.args.self.now) ts c.in-Some.between.low c.in-Some.between.high p → In c.keep_between.new.self p) c.items.ensures.items c.keep_between.ensures.kept)
    (subst (λ (ts : List Term). (p : Point) → In c.keep_between.new.self p → IsSpanned (length c.args.self.now.full) (length c.args.self.now.array_full) (SumIn (In c.args.self.now) ts c.in-Some.between.low c.in-Some.between.high) p) c.items.ensures.items c.keep_between.ensures.spanned)

pub returns-in-Some-clause-made : goal.returns-in-Some-clause-made
returns-in-Some-clause-made c = λ simple p i.
    made_between c.args.self.now c.args.f.now c.args.r c.form_range-values.result c.form_range-values.ensures.hull c.keep_between.new.self c.in-Some.between
    (subst (λ (k : ℤ). (z : ℤ) → Holds c.form_range-values.result (z +ℤ k) → Holds c.in-Some.between z ↔ MeetsIn c.form_range-values.result c.args.r (z +ℤ k)) (read_small c.args.f.now.constant c.requires.form.small) c.in-Some.ensures.exact)
    p
    (subst (λ (ts : List Term). IsSimple ts → (q : Point) → In c.keep_between.new.self q → SumIn (In c.args.self.now) ts c.in-Some.between.low c.in-Some.between.high q) c.items.ensures.items c.keep_between.ensures.made simple p i)
