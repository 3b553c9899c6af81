-- What was seen so far, as plain data.
use Rattle.wm_observe.specs.declared.observing.Watch.{Watch}
use Rattle.wm_observe.specs.Lines.{lines_of}
use Rattle.wm_observe.specs.Observation.{Observation}

abbrev pub watched : Watch → Observation
watched watch = record { frames = watch.frames; lines = lines_of watch.lines.items; counts = watch.counts.items }
