use Rattle.std.proofs.Common.{sym}
use Rattle.wm_ties.proofs.Making.{new_narrow, new_exactly}
use Rattle.wm_ties.proofs.ties.Ties.new.Goals as goal

pub invariant_of-result : goal.invariant_of-result
invariant_of-result c = record {
  narrow = new_narrow c.in_ok-octagon.octagon c.args.ranges.now c.requires.narrow c.in_ok-octagon.ensures.variables c.in_ok-octagon.ensures.least;
  counted = sym c.in_ok-octagon.ensures.variables;
}

pub returns-clause-points : goal.returns-clause-points
returns-clause-points c = new_exactly c.in_ok-octagon.octagon c.args.ranges.now c.in_ok-octagon.ensures.variables c.in_ok-octagon.ensures.least
