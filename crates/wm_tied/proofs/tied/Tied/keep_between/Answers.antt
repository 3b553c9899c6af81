use Rattle.std.proofs.Common.{◌≡◌, ◌∙◌, ap, sym, subst, length, List, [], ◌∷◌, true}
use Rattle.wm_domain.specs.declared.form.Term.{Term}
use Rattle.wm_domain.specs.Points.{Point}
use Rattle.wm_domain.specs.Forms.{AreBounded}
use Rattle.wm_domain.specs.Terms.{SumIn}
use Rattle.wm_spans.proofs.Few.{none_of, two_of}
use Rattle.wm_tied.specs.Pointed.{In}
use Rattle.wm_tied.specs.Leaving.{IsLeft, IsExactly}
use Rattle.wm_tied.proofs.Bounding.{exactly_left}
use Rattle.wm_tied.proofs.tied.Tied.keep_between.Goals as goal

-- the terms are none, one or two
none_is : (c : goal.After-keep_where) → c.args.terms.now ≡ []
none_is c = none_of c.args.terms.now c.in-None.ensures.cases

one_is : (c : goal.After-keep_term) → c.args.terms.now ≡ c.in-Some.first.now ∷ []
one_is c = c.in-Some.ensures.cases.0 ∙ ap (λ (ts : List Term). c.in-Some.first.now ∷ ts) (none_of c.in-Some.rest.now c.in-None-split_first.ensures.cases)

two_are : (c : goal.After-keep_sum) → c.args.terms.now ≡ c.in-Some.first.now ∷ c.in-Some-split_first.second.now ∷ []
two_are c = two_of _ _ _ _ _ _ c.requires.terms c.in-Some.ensures.cases.0 c.in-Some-split_first.ensures.cases.0

pub returns-in-None-clause-left : goal.returns-in-None-clause-left
returns-in-None-clause-left c = subst (λ (ts : List Term). IsLeft c.keep_where.new.self (SumIn (In c.args.self.now) ts c.args.r.low c.args.r.high)) (sym (none_is c)) (exactly_left c.keep_where.new.self _ c.keep_where.ensures.points)

pub returns-in-None-clause-fewer : goal.returns-in-None-clause-fewer
returns-in-None-clause-fewer c = λ p i. (c.keep_where.ensures.points.made p i).point

pub returns-in-None-clause-made : goal.returns-in-None-clause-made
returns-in-None-clause-made c = λ bounded. subst (λ (ts : List Term). (p : Point) → In c.keep_where.new.self p → SumIn (In c.args.self.now) ts c.args.r.low c.args.r.high p) (sym (none_is c)) c.keep_where.ensures.points.made

pub returns-in-None-split_first-clause-left : goal.returns-in-None-split_first-clause-left
returns-in-None-split_first-clause-left c = subst (λ (ts : List Term). IsLeft c.keep_term.new.self (SumIn (In c.args.self.now) ts c.args.r.low c.args.r.high)) (sym (one_is c)) (exactly_left c.keep_term.new.self _ c.keep_term.ensures.points)

pub returns-in-None-split_first-clause-fewer : goal.returns-in-None-split_first-clause-fewer
returns-in-None-split_first-clause-fewer c = λ p i. (c.keep_term.ensures.points.made p i).point

pub returns-in-None-split_first-clause-made : goal.returns-in-None-split_first-clause-made
returns-in-None-split_first-clause-made c = λ bounded. subst (λ (ts : List Term). (p : Point) → In c.keep_term.new.self p → SumIn (In c.args.self.now) ts c.args.r.low c.args.r.high p) (sym (one_is c)) c.keep_term.ensures.points.made

pub returns-in-Some-split_first-clause-left : goal.returns-in-Some-split_first-clause-left
returns-in-Some-split_first-clause-left c = subst (λ (ts : List Term). IsLeft c.keep_sum.new.self (SumIn (In c.args.self.now) ts c.args.r.low c.args.r.high)) (sym (two_are c)) c.keep_sum.ensures.left

pub returns-in-Some-split_first-clause-made : goal.returns-in-Some-split_first-clause-made
returns-in-Some-split_first-clause-made c = λ bounded.
    let b = subst (AreBounded true (length c.args.self.now.group)) (two_are c) bounded in
    subst (λ (ts : List Term). (p : Point) → In c.keep_sum.new.self p → SumIn (In c.args.self.now) ts c.args.r.low c.args.r.high p) (sym (two_are c)) (c.keep_sum.ensures.made b.1 b.2)
