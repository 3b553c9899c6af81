-- Failures that are grouped.
use Rattle.std.specs.Prelude.{suc}
use Rattle.wm_program.specs.declared.results.Event.{Event}

-- once more
abbrev pub counted_again : Event → Event
counted_again event = record event { times = suc event.times }
