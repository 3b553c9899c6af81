-- The lines that were looked at, and those that are left.
use Rattle.std.proofs.Common.{◌≡◌, length}
use Rattle.wm_interp.specs.Standing.{stand_of}
use Rattle.wm_observe.specs.Lines.{looked_at}
use Rattle.wm_observe.specs.Standing.{objects_in}
use Rattle.wm_observe.proofs.Looks.{left}
use Rattle.wm_observe.proofs.lines.look.Given as goal

abbrev pub invariant-loop-k : goal.invariant-loop-k
invariant-loop-k l = record {
  same : length l.lines.items ≡ length l.fn.lines.items;
  rest : left (looked_at (objects_in (stand_of l.machine))) l.k l.lines.items ≡ left (looked_at (objects_in (stand_of l.machine))) 0 l.fn.lines.items;
}
