use Rattle.std.proofs.Common.{◌≡◌, sym, subst, length, List}
use Rattle.wm_domain.specs.declared.form.Term.{Term}
use Rattle.wm_domain.specs.Points.{Point}
use Rattle.wm_domain.specs.Forms.{IsSimple}
use Rattle.wm_domain.specs.Terms.{SumIn}
use Rattle.wm_spans.specs.Spanned.{In}
use Rattle.wm_spans.specs.Exact.{IsSpanned}
use Rattle.wm_spans.proofs.Few.{none_of, one_of, two_of}
use Rattle.wm_spans.proofs.spans.Spans.keep_between.Goals as goal

pub returns-in-None-clause-kept : goal.returns-in-None-clause-kept
returns-in-None-clause-kept c = subst (λ (ts : List Term). (p : Point) → SumIn (In c.args.self.now) ts c.args.r.low c.args.r.high p → In c.keep_where.new.self p) (sym (none_of c.args.terms.now c.in-None.ensures.cases)) c.keep_where.ensures.kept

pub returns-in-Some-split_first-clause-spanned : goal.returns-in-Some-split_first-clause-spanned
returns-in-Some-split_first-clause-spanned c = subst (λ (ts : List Term). (p : Point) → In c.keep_sum.new.self p → IsSpanned (length c.args.self.now.full) (length c.args.self.now.array_full) (SumIn (In c.args.self.now) ts c.args.r.low c.args.r.high) p)
    (sym (two_of _ _ _ _ _ _ c.requires.terms c.in-Some.ensures.cases.0 c.in-Some-split_first.ensures.cases.0)) c.keep_sum.ensures.spanned

pub returns-in-None-clause-fewer : goal.returns-in-None-clause-fewer
returns-in-None-clause-fewer c = λ p i. (c.keep_where.ensures.made p i).point

pub returns-in-None-clause-made : goal.returns-in-None-clause-made
returns-in-None-clause-made c = λ simple. subst (λ (ts : List Term). (p : Point) → In c.keep_where.new.self p → SumIn (In c.args.self.now) ts c.args.r.low c.args.r.high p) (sym (none_of c.args.terms.now c.in-None.ensures.cases)) c.keep_where.ensures.made

pub returns-in-Some-split_first-clause-made : goal.returns-in-Some-split_first-clause-made
returns-in-Some-split_first-clause-made c = λ simple. absurd (subst IsSimple (two_of _ _ _ _ _ _ c.requires.terms c.in-Some.ensures.cases.0 c.in-Some-split_first.ensures.cases.0) simple)

pub returns-in-None-split_first-clause-fewer : goal.returns-in-None-split_first-clause-fewer
returns-in-None-split_first-clause-fewer c = λ p i. (c.keep_term.ensures.made p i).point

pub returns-in-None-split_first-clause-made : goal.returns-in-None-split_first-clause-made
returns-in-None-split_first-clause-made c = λ simple. subst (λ (ts : List Term). (p : Point) → In c.keep_term.new.self p → SumIn (In c.args.self.now) ts c.args.r.low c.args.r.high p) (sym (one_of _ _ _ simple c.in-Some.ensures.cases.0)) c.keep_term.ensures.made
