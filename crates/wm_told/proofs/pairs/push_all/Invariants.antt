use Rattle.std.proofs.Common.{◌≡◌, ◌++◌, drop}
use Rattle.std.specs.Prelude.{All}
use Rattle.wm_told.specs.Tells.{IsPairOf, names_of, pairs_from}
use Rattle.wm_told.proofs.pairs.push_all.Given as goal

abbrev pub invariant-loop-range : goal.invariant-loop-range
invariant-loop-range g l = record {
  names : names_of l.pairs ++ pairs_from l.first (drop l._range-index l.group) ≡ names_of l.fn.pairs ++ pairs_from 0 l.group;
  right : All (IsPairOf (g.D.Domain.holds l.state)) l.pairs;
  at : l.first ≡ l._range-index;
}
