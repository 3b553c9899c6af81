use Rattle.std.proofs.lemmas.Slice.Eq.{slice_eq-Decides}
use Rattle.wm_projected.proofs.Equal.{same_range}
use Rattle.wm_projected.proofs.whole.are_equal.Goals as goal

pub returns : goal.returns
returns c = (slice_eq-Decides same_range c.args.a.now c.args.b.now c.eq.result c.eq.ensures).0
