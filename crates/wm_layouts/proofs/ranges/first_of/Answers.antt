use Rattle.wm_layouts.proofs.Grown.{ranges_taken}
use Rattle.wm_layouts.proofs.ranges.first_of.Goals as goal

pub returns : goal.returns
returns c = cc (ranges_taken c.args.list.now c.args.count)
