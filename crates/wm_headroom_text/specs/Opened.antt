-- What is open, as plain data.
use Rattle.std.specs.Prelude.{Option, Some, None}
use Rattle.wm_headroom_text.specs.Open as plain
use Rattle.wm_headroom_text.specs.declared.sites.Open.{Open}

abbrev pub opened : Option Open → Option plain.Open
opened None = None
opened (Some it) = Some (record { op = it.op; boxes = it.boxes.now })
