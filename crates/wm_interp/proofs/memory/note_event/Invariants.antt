use Rattle.std.proofs.Common.{◌≡◌, ◌++◌, take, drop}
use Rattle.wm_program.specs.Runs.{with_event}
use Rattle.wm_interp.proofs.memory.note_event.Given as goal

abbrev pub invariant-loop-i : goal.invariant-loop-i
invariant-loop-i l =
    (l.events.items ≡ l.fn.events.items)
    × (take l.i l.fn.events.items ++ with_event l.site l.cause (drop l.i l.fn.events.items) ≡ with_event l.site l.cause l.fn.events.items)
