-- What a check is given: what the specification says, the weights, the program, and the bytes of the certificate.
use Rattle.std.specs.Prelude.{ℕ, List, Option}
use Rattle.wm_program.specs.declared.program.Program.{Program}
use Rattle.wm_program.specs.Settings.{Settings, settings_of}
use Rattle.wm_load.specs.declared.check.Check.{Check as Given}

pub record Check : Type 0 where
  pub settings : Settings
  pub weights : List (Option ℕ)
  pub program : Program
  pub certificate : List ℕ

abbrev pub check_of : Given → Check
check_of check = record { settings = settings_of check.spec; weights = check.weights; program = check.program; certificate = check.certificate.items }
