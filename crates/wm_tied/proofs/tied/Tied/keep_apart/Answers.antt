use Rattle.wm_spans.proofs.Sizes.{sub_sizes}
use Rattle.wm_tied.proofs.Bounding.{apart_left, apart_fewer}
use Rattle.wm_tied.proofs.tied.Tied.keep_apart.Goals as goal

pub cut_term-requires-2-clause-size : goal.cut_term-requires-2-clause-size
cut_term-requires-2-clause-size c = sub_sizes c.args.r c.term_range-a_range.result c.sub-2.result c.requires.size c.term_range-a_range.ensures.size c.sub-2.ensures.low c.sub-2.ensures.high

pub returns-clause-left : goal.returns-clause-left
returns-clause-left c = apart_left c.args.self.now c.cut_term.new.self c.cut_term-2.new.self c.args.a c.args.b c.args.r c.term_range-a_range.result c.term_range-b_range.result c.sub.result c.sub-2.result c.requires.apart c.requires.single c.requires.second
    c.term_range-b_range.ensures.hull c.sub.ensures.low c.sub.ensures.high c.cut_term.ensures.alike c.cut_term.ensures.points
    c.term_range-a_range.ensures.hull c.sub-2.ensures.low c.sub-2.ensures.high c.cut_term-2.ensures.alike c.cut_term-2.ensures.points

pub returns-clause-fewer : goal.returns-clause-fewer
returns-clause-fewer c = λ p i. (c.cut_term.ensures.points.made p (c.cut_term-2.ensures.points.made p i).point).point
