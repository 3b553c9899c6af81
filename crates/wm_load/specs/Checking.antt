-- What a check asks for, and what it comes to.
use Rattle.std.specs.Prelude.{ℕ, List, Result, Ok}
use Rattle.wm_read.specs.Asking.{Asking, Done, ◌>>=◌}
use Rattle.wm_read.specs.Certificate.{certificate_asked, check_texts_asked}
use Rattle.wm_report.specs.declared.fault.RunFault.{RunFault}
use Rattle.wm_load.specs.Check.{Check}
use Rattle.wm_load.specs.Loaded.{Loaded}
use Rattle.wm_load.specs.Loading.{load_behind}

-- the specification must name a certificate before anything behind it is read
unfoldable pub check_load_asked : List ℕ → Asking (Result Loaded RunFault)
check_load_asked name = check_texts_asked name >>= load_behind

abbrev pub with_bytes : Loaded → List ℕ → Asking (Result Check RunFault)
with_bytes loaded bytes =
    Done (Ok (record { settings = loaded.settings; weights = loaded.weights; program = loaded.program; certificate = bytes }))

-- the certificate that the specification names
unfoldable pub check_behind : Loaded → Asking (Result Check RunFault)
check_behind loaded = certificate_asked loaded.settings.certificate >>= with_bytes loaded

-- the certificate is read last
unfoldable pub check_asked : List ℕ → Asking (Result Check RunFault)
check_asked name = check_load_asked name >>= check_behind
