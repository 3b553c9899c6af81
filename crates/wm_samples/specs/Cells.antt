-- The cells of an input, as what it takes of a frame.
use Rattle.wm_samples.specs.Form.{Form}
use Rattle.wm_samples.specs.declared.cells.InputCells.{InputCells}

abbrev pub form_seen : InputCells → Form
form_seen cells = record { cells = cells.count; width = cells.width; low = cells.range.low; high = cells.range.high }
