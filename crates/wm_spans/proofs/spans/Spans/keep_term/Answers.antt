use Rattle.wm_spans.proofs.Summing.{one_kept, one_spanned, one_made}
use Rattle.wm_spans.proofs.spans.Spans.keep_term.Goals as goal

pub returns-clause-kept : goal.returns-clause-kept
returns-clause-kept c = one_kept c.args.self.now c.cut_term.new.self c.args.t c.args.r c.cut_term.ensures.full c.cut_term.ensures.array_full c.cut_term.ensures.points

pub returns-clause-spanned : goal.returns-clause-spanned
returns-clause-spanned c = one_spanned c.args.self.now c.cut_term.new.self c.args.t c.args.r c.cut_term.ensures.points

pub returns-clause-made : goal.returns-clause-made
returns-clause-made c = one_made c.args.self.now c.cut_term.new.self c.args.t c.args.r c.cut_term.ensures.points
