use Rattle.wm_spans.proofs.Sizes.{sub_sizes}
use Rattle.wm_spans.proofs.Summing.{two_kept, two_spanned, twice_fewer}
use Rattle.wm_spans.proofs.spans.Spans.keep_sum.Goals as goal

pub cut_term-requires-2-clause-size : goal.cut_term-requires-2-clause-size
cut_term-requires-2-clause-size c = sub_sizes c.args.r c.term_range-a_range.result c.sub-2.result c.requires.size c.term_range-a_range.ensures.size c.sub-2.ensures.low c.sub-2.ensures.high

pub returns-clause-kept : goal.returns-clause-kept
returns-clause-kept c = two_kept c.args.self.now c.cut_term.new.self c.cut_term-2.new.self c.args.a c.args.b c.args.r c.term_range-a_range.result c.term_range-b_range.result c.sub.result c.sub-2.result c.requires.apart c.requires.second
    c.term_range-b_range.ensures.hull c.sub.ensures.low c.sub.ensures.high c.cut_term.ensures.full c.cut_term.ensures.array_full c.cut_term.ensures.points
    c.term_range-a_range.ensures.hull c.sub-2.ensures.low c.sub-2.ensures.high c.cut_term-2.ensures.full c.cut_term-2.ensures.array_full c.cut_term-2.ensures.points

pub returns-clause-spanned : goal.returns-clause-spanned
returns-clause-spanned c = two_spanned c.args.self.now c.cut_term.new.self c.cut_term-2.new.self c.args.a c.args.b c.args.r c.term_range-a_range.result c.term_range-b_range.result c.sub.result c.sub-2.result c.requires.apart c.requires.second
    c.term_range-b_range.ensures.hull c.sub.ensures.low c.sub.ensures.high c.cut_term.ensures.full c.cut_term.ensures.array_full c.cut_term.ensures.points
    c.term_range-a_range.ensures.hull c.sub-2.ensures.low c.sub-2.ensures.high c.cut_term-2.ensures.full c.cut_term-2.ensures.array_full c.cut_term-2.ensures.points

pub returns-clause-fewer : goal.returns-clause-fewer
returns-clause-fewer c = twice_fewer c.args.self.now c.cut_term.new.self c.cut_term-2.new.self c.args.a c.args.b _ _ _ _ c.cut_term.ensures.points c.cut_term-2.ensures.points
