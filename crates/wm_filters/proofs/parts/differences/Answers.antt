use Rattle.wm_filters.proofs.Staying.{differences_of}
use Rattle.wm_filters.proofs.parts.differences.Goals as goal

pub returns : goal.returns
returns c = record { differences = differences_of c.args.d c.new-all.result c.meet.result c.new-all.ensures.low c.new-all.ensures.high c.meet.ensures.common c.meet.ensures.each }
