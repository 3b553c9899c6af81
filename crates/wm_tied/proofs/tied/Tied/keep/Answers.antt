use Rattle.std.proofs.Common.{subst, length, ℕ, ℤ, ◌+ℤ◌, ◌↔◌, List, true}
use Rattle.wm_domain.specs.declared.form.Term.{Term}
use Rattle.wm_domain.specs.Points.{Point}
use Rattle.wm_domain.specs.Forms.{AreBounded}
use Rattle.wm_domain.specs.Terms.{SumIn}
use Rattle.wm_spans.specs.Exact.{MeetsIn}
use Rattle.wm_interval.specs.Holds.{Holds}
use Rattle.wm_spans.proofs.Sizes.{read_small}
use Rattle.wm_tied.specs.Pointed.{In}
use Rattle.wm_tied.specs.Leaving.{IsLeft}
use Rattle.wm_tied.proofs.Bounding.{all_made, all_left, between_made, between_left}
use Rattle.wm_tied.proofs.tied.Tied.keep.Goals as goal

pub returns-in-None-clause-left : goal.returns-in-None-clause-left
returns-in-None-clause-left c = all_left c.args.self.now c.args.f.now c.args.r c.form_range-values.result c.form_range-values.ensures.hull c.in-None.ensures.exact

pub returns-in-None-clause-made : goal.returns-in-None-clause-made
returns-in-None-clause-made c = λ bounded. all_made c.args.self.now c.args.f.now c.args.r c.form_range-values.result c.form_range-values.ensures.hull c.in-None.ensures.exact

pub returns-in-Some-clause-left : goal.returns-in-Some-clause-left
returns-in-Some-clause-left c = between_left c.args.self.now c.args.f.now c.args.r c.form_range-values.result c.form_range-values.ensures.hull c.in-Some.between
    (subst (λ (k : ℤ). (z : ℤ) → Holds c.form_range-values.result (z +ℤ k) → Holds c.in-Some.between z ↔ MeetsIn c.form_range-values.result c.args.r (z +ℤ k)) (read_small c.args.f.now.constant c.requires.form.small) c.in-Some.ensures.exact)
    c.keep_between.new.self
    (subst (λ (ts : List Term). IsLeft c.keep_between.new.self (SumIn (In c.args.self.now) ts c.in-Some.between.low c.in-Some.between.high)) c.items.ensures.items c.keep_between.ensures.left)

pub returns-in-Some-clause-made : goal.returns-in-Some-clause-made
returns-in-Some-clause-made c = λ bounded p i. between_made c.args.self.now c.args.f.now c.args.r c.form_range-values.result c.form_range-values.ensures.hull c.in-Some.between
    (subst (λ (k : ℤ). (z : ℤ) → Holds c.form_range-values.result (z +ℤ k) → Holds c.in-Some.between z ↔ MeetsIn c.form_range-values.result c.args.r (z +ℤ k)) (read_small c.args.f.now.constant c.requires.form.small) c.in-Some.ensures.exact)
    p
    (subst (λ (ts : List Term). AreBounded true (length c.args.self.now.group) ts → (q : Point) → In c.keep_between.new.self q → SumIn (In c.args.self.now) ts c.in-Some.between.low c.in-Some.between.high q) c.items.ensures.items c.keep_between.ensures.made bounded p i)
