use Rattle.wm_spans.proofs.Ends.{ranged_as}
use Rattle.wm_spans.proofs.spans.Spans.cut_term.Goals as goal

pub returns-clause-points : goal.returns-clause-points
returns-clause-points c = ranged_as c.args.self.now c.cut.new.self c.args.t c.args.r c.turned.result c.turned.ensures.back c.cut.ensures.points
