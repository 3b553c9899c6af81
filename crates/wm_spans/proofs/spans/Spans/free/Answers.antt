use Rattle.wm_spans.proofs.Cutting.{free_found}
use Rattle.wm_spans.proofs.spans.Spans.free.Goals as goal

pub returns-in-Some-clause-points : goal.returns-in-Some-clause-points
returns-in-Some-clause-points c = free_found c.args.self.now c.put.new.self c.args.v c.requires.inside c.args.r c.full_range.result c.full_range.ensures.kept c.in-Some.common c.in-Some.ensures.each c.full_range.ensures.value c.put.ensures.value
