use Rattle.std.proofs.Common.{◌∙◌}
use Rattle.wm_octagon.proofs.Small.{small_read}
use Rattle.wm_octagon.proofs.Tight.{bound_here}
use Rattle.wm_octagon.proofs.half.Half.entry.Goals as goal

pub returns : goal.returns
returns c = record { value = small_read c.bound.result c.bound.ensures.small ∙ c.bound.ensures.value ∙ bound_here c.args.self.now.bounds c.args.i c.args.j c.requires.column }
