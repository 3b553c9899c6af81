use Rattle.std.proofs.Common.{◌≡◌, [], replicate}
use Rattle.wm_interp.proofs.frames.no_locals.Given as goal

abbrev pub invariant-loop : goal.invariant-loop
invariant-loop l = l.locals.items ≡ replicate l.counter []
