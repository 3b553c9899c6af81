use Rattle.std.proofs.Common.{pos, length, arith}
use Rattle.std.proofs.lemmas.List.FromFn.{fill_by_all}
use Rattle.std.specs.Int.{int_max}
use Rattle.wm_octagon.specs.Ways.{at}
use Rattle.wm_octagon.proofs.pairs.raise_all.Goals as goal

pub returns : goal.returns
returns c =
    fill_by_all (λ i. int_max (at c.args.bounds.now i) (at c.args.others.now i)) c.loop-i.bounds (length c.args.bounds.now) (pos 0) c.loop-i.auto.bounds
    (λ k h. c.loop-i.invariant.done k (omega arith))
