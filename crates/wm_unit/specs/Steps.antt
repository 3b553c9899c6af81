-- One step after another: a refusal ends them.
use Rattle.std.specs.Prelude.{Result, Ok, Err}
use Rattle.wm_report.specs.declared.fault.RunFault.{RunFault}

abbrev pub chained : {A B : Type 0} → Result A RunFault → (A → Result B RunFault) → Result B RunFault
chained (Ok x) go = go x
chained (Err fault) go = Err fault
