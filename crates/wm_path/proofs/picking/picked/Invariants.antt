-- The edges that were picked, and those that are picked of what is left.
use Rattle.std.proofs.Common.{◌≡◌, ◌++◌, ◌+◌, drop}
use Rattle.wm_path.specs.Picks.{picked}
use Rattle.wm_path.proofs.picking.picked.Given as goal

abbrev pub invariant-loop-k : goal.invariant-loop-k
invariant-loop-k l = l.edges ++ picked l.first l.added l.best l.ending (l.number + l.k) l.at (drop l.k l.ways) ≡ picked l.first l.added l.best l.ending l.number l.first l.ways
