use Rattle.std.proofs.Common.{subst, sym}
use Rattle.wm_spans.specs.Spanned.{Spanned, In}
use Rattle.wm_spans.proofs.Summing.{near_none_kept, near_some_kept, near_some_spanned, cleared_spanned}
use Rattle.wm_spans.proofs.spans.Spans.set_near_within.Goals as goal

pub returns-in-None-clause-kept : goal.returns-in-None-clause-kept
returns-in-None-clause-kept c = λ p n. subst (λ (u : Spanned). In u p) (sym c.clear.ensures.value)
    (near_none_kept c.args.self.now c.cut_term.new.self c.args.v c.args.t c.args.d c.args.r c.term_range.result c.sub.result c.add-near.result c.requires.inside c.requires.lies c.sub.ensures.low c.sub.ensures.high
    c.cut_term.ensures.full c.cut_term.ensures.array_full c.cut_term.ensures.points c.term_range.ensures.hull c.add-near.ensures.low c.add-near.ensures.high c.in-None.ensures.common p n)

pub returns-in-None-clause-spanned : goal.returns-in-None-clause-spanned
returns-in-None-clause-spanned c = cleared_spanned c.cut_term.new.self c.clear.new.self _ _ _ c.clear.ensures.value

pub returns-in-Some-clause-kept : goal.returns-in-Some-clause-kept
returns-in-Some-clause-kept c = near_some_kept c.args.self.now c.cut_term.new.self c.args.v c.args.t c.args.d c.args.r c.term_range.result c.sub.result c.add-near.result c.requires.inside c.requires.lies c.sub.ensures.low c.sub.ensures.high
    c.cut_term.ensures.full c.cut_term.ensures.array_full c.cut_term.ensures.points c.term_range.ensures.hull c.add-near.ensures.low c.add-near.ensures.high c.free.new.self c.in-Some.now c.in-Some.ensures.each c.free.ensures.full c.free.ensures.array_full c.free.ensures.points

pub returns-in-Some-clause-spanned : goal.returns-in-Some-clause-spanned
returns-in-Some-clause-spanned c = near_some_spanned c.args.self.now c.cut_term.new.self c.args.v c.args.t c.args.d c.args.r c.term_range.result c.sub.result c.add-near.result c.requires.inside c.requires.lies c.sub.ensures.low c.sub.ensures.high
    c.cut_term.ensures.full c.cut_term.ensures.array_full c.cut_term.ensures.points c.term_range.ensures.hull c.add-near.ensures.low c.add-near.ensures.high c.free.new.self c.in-Some.now c.in-Some.ensures.each c.free.ensures.full c.free.ensures.array_full c.free.ensures.points
