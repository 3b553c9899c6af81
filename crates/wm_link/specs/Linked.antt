-- The program of a unit and a specification, or the first of their faults.
use Rattle.std.specs.Prelude.{[], Result, Ok, Err}
use Rattle.wm_lang.specs.declared.unit.Unit.{Unit as Source}
use Rattle.wm_program.specs.declared.faults.LinkFault.{LinkFault}
use Rattle.wm_program.specs.declared.program.Program.{Program}
use Rattle.wm_program.specs.declared.spec.Spec.{Spec}
use Rattle.wm_reading.specs.Reading.{read_unit}
use Rattle.wm_assemble.specs.declared.plan.Started.{Started}
use Rattle.wm_assemble.specs.Linked.{started, finished}

-- a second way through the unit knows where the instances of calls stand
abbrev pub followed : Source → Spec → Result Started LinkFault → Result Program LinkFault
followed unit spec (Err fault) = Err fault
followed unit spec (Ok begun) = Ok (finished spec begun (read_unit unit begun.offsets))

unfoldable pub linked : Source → Spec → Result Program LinkFault
linked unit spec = followed unit spec (started unit spec (read_unit unit []))
