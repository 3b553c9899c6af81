-- How far the walk has come, and that it goes on.
use Rattle.std.proofs.Common.{◌+◌, ◌-◌, ◌*◌, length}
use Rattle.wm_lex.specs.Replacing.{sizes_of}
use Rattle.wm_lex.proofs.WalkSteps.{IsWalk, total}
use Rattle.wm_lex.proofs.walk.reaches_itself.Given as goal

abbrev pub invariant-path : goal.invariant-path
invariant-path l = IsWalk l.definitions l.start l.seen.items l.path.items

abbrev pub decreases-path : goal.decreases-path
decreases-path l = 2 * (sizes_of l.definitions - total l.seen.items) + length l.path.items
