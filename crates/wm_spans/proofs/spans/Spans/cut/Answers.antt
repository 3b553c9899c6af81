use Rattle.wm_spans.proofs.Cutting.{cut_found}
use Rattle.wm_spans.proofs.spans.Spans.cut.Goals as goal

pub returns-in-Some-clause-points : goal.returns-in-Some-clause-points
returns-in-Some-clause-points c = cut_found c.args.self.now c.put.new.self c.args.v c.requires.inside c.args.r c.range.result c.range.ensures.kept c.in-Some.common c.in-Some.ensures.each c.range.ensures.value c.put.ensures.value
