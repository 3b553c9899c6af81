-- What is answered, and what stands.
use Rattle.std.specs.Prelude.{◌≡◌, Result, Ok, Err}
use Rattle.wm_program.specs.declared.faults.LinkFault.{LinkFault}
use Rattle.wm_program.specs.declared.faults.LinkFault.TheVariants.{NoMemory}

-- what was answered is what stands, unless memory was refused
abbrev pub Refuses : {A : Type 0} → LinkFault → Result A LinkFault → Type 0
Refuses NoMemory stands = Unit {0}
Refuses fault stands = stands ≡ Err fault

abbrev pub Answers : {A : Type 0} → Result A LinkFault → Result A LinkFault → Type 0
Answers (Ok a) stands = stands ≡ Ok a
Answers (Err fault) stands = Refuses fault stands
