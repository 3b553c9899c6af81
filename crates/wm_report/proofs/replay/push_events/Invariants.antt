use Rattle.std.proofs.Common.{◌≡◌, ◌++◌, drop}
use Rattle.wm_report.specs.Replay.{event_lines}
use Rattle.wm_report.proofs.replay.push_events.Given as goal

-- the lines so far, and those of what is left
abbrev pub invariant-loop-event : goal.invariant-loop-event
invariant-loop-event l = l.text.items ++ event_lines l.part (drop l.event-index l.events) ≡ l.fn.text.items ++ event_lines l.part l.events
