use Rattle.wm_octagon.proofs.Small.{doubled, doubled-minus}
use Rattle.wm_octagon.proofs.Octagons.{range-given}
use Rattle.wm_octagon.proofs.octagon.Octagon.add_range.Goals as goal

pub returns-clause-least : goal.returns-clause-least
returns-clause-least c =
    range-given c.args.self.now c.keep.new.self c.keep-2.new.self c.args.v c.args.r.low c.args.r.high _ _ _ _ _ _ c.requires.inside c.keep.ensures.variables c.keep-2.ensures.variables
    c.keep.ensures.least c.keep-2.ensures.least c.sides_of-plus.ensures.minus c.sides_of-plus.ensures.plus c.sides_of-plus.ensures.plus c.sides_of-plus.ensures.minus
    (doubled c.args.r.high c.requires.high_size) (doubled-minus c.args.r.low c.requires.low_size)
