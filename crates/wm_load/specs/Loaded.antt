-- What every command is given: what the specification says, the weights and the program.
use Rattle.std.specs.Prelude.{ℕ, List, Option}
use Rattle.wm_program.specs.declared.program.Program.{Program}
use Rattle.wm_program.specs.Settings.{Settings, settings_of}
use Rattle.wm_load.specs.declared.loaded.Loaded.{Loaded as Given}

pub record Loaded : Type 0 where
  pub settings : Settings
  pub weights : List (Option ℕ)
  pub program : Program

abbrev pub loaded_of : Given → Loaded
loaded_of loaded = record { settings = settings_of loaded.spec; weights = loaded.weights; program = loaded.program }
