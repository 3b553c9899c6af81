-- What every command asks for, and what it comes to.
use Rattle.std.specs.Prelude.{ℕ, List, Option, Some, None, Result, Ok, Err}
use Rattle.wm_lacking.specs.Lacking.{lacking}
use Rattle.wm_ops.specs.declared.words.Counted.{Counted}
use Rattle.wm_program.specs.declared.program.Program.{Program}
use Rattle.wm_program.specs.Settings.{Settings}
use Rattle.wm_read.specs.Asking.{Asking, Done, ◌>>=◌}
use Rattle.wm_read.specs.Files.{Texts, texts_asked}
use Rattle.wm_report.specs.declared.fault.RunFault.{RunFault}
use Rattle.wm_report.specs.declared.fault.RunFault.TheVariants.{MissingWeight}
use Rattle.wm_unit.specs.Steps.{chained}
use Rattle.wm_load.specs.Linking.{program_of_texts}
use Rattle.wm_load.specs.Loaded.{Loaded}
use Rattle.wm_load.specs.Specification.{spec_of}

-- the first word without a weight refuses
abbrev pub unless_lacking : Option Counted → Loaded → Result Loaded RunFault
unless_lacking None loaded = Ok loaded
unless_lacking (Some word) loaded = Err (MissingWeight word)

unfoldable pub weighed : Settings → List (Option ℕ) → Program → Result Loaded RunFault
weighed settings weights program =
    unless_lacking (lacking program weights) (record { settings = settings; weights = weights; program = program })

-- the program of what was read
unfoldable pub loaded_from : Texts → Result Loaded RunFault
loaded_from texts = chained (program_of_texts (spec_of texts.settings) texts.sources) (weighed texts.settings texts.weights)

abbrev pub load_behind : Texts → Asking (Result Loaded RunFault)
load_behind texts = Done (loaded_from texts)

-- specification, weights and sources are read before anything is said of the sources
unfoldable pub load_asked : List ℕ → Asking (Result Loaded RunFault)
load_asked name = texts_asked name >>= load_behind
