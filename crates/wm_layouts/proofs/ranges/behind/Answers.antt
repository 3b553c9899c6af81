use Rattle.wm_layouts.proofs.Grown.{ranges_dropped}
use Rattle.wm_layouts.proofs.ranges.behind.Goals as goal

pub returns : goal.returns
returns c = cc (ranges_dropped c.args.list.now c.args.count)
