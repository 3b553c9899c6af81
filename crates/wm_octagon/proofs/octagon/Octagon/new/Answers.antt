use Rattle.wm_octagon.proofs.Octagons.{kept-new}
use Rattle.wm_octagon.proofs.octagon.Octagon.new.Goals as goal

pub invariant_of-result : goal.invariant_of-result
invariant_of-result c = kept-new c.in_ok-half.half c.args.ranges.now c.in_ok-half.ensures.list c.requires.few c.requires.narrow c.in_ok-half.ensures.least c.in_ok-half.ensures.tight
