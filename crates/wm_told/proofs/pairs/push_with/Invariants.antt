use Rattle.std.proofs.Common.{◌≡◌, ◌+◌, ◌++◌, drop}
use Rattle.std.specs.Prelude.{All}
use Rattle.wm_told.specs.Tells.{IsPairOf, names_of, pairs_with}
use Rattle.wm_told.proofs.pairs.push_with.Given as goal

abbrev pub invariant-loop-range : goal.invariant-loop-range
invariant-loop-range g l = record {
  names : names_of l.pairs ++ pairs_with l.first (l.second + 1) (drop l._range-index l.behind) ≡ names_of l.fn.pairs ++ pairs_with l.first (l.first + 1) l.behind;
  right : All (IsPairOf (g.D.Domain.holds l.state)) l.pairs;
  at : l.second ≡ l.first + l._range-index;
}
