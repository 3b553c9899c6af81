-- The certificate of a check: the key that a specification must have for it, the read of the file, and all texts of a check.
use Rattle.std.specs.Prelude.{ℕ, List, Option, Some, None, Result, Ok, Err, codes}
use Rattle.wm_program.specs.Settings.{Settings}
use Rattle.wm_report.specs.declared.fault.RunFault.{RunFault}
use Rattle.wm_report.specs.declared.fault.RunFault.TheVariants as run
use Rattle.wm_read.specs.Asking.{Read, Bytes, TooLong, Failed, Asking, Done, Ask, ◌>>=◌}
use Rattle.wm_read.specs.Files.{Texts, specification_asked, texts_with}

abbrev pub certificate_missing : RunFault
certificate_missing = run.MissingKey (codes "certificate")

abbrev pub certified_by : Option (List ℕ) → Settings → Result Settings RunFault
certified_by None settings = Err certificate_missing
certified_by (Some name) settings = Ok settings

-- settings without the key are refused
unfoldable pub certified : Settings → Result Settings RunFault
certified settings = certified_by settings.certificate settings

abbrev pub certified_behind : Settings → Asking (Result Settings RunFault)
certified_behind settings = Done (certified settings)

-- all other faults of the specification stand before it
unfoldable pub certified_asked : List ℕ → Asking (Result Settings RunFault)
certified_asked name = specification_asked name >>= certified_behind

-- the texts of a check: nothing behind the specification is read where the key is missing
unfoldable pub check_texts_asked : List ℕ → Asking (Result Texts RunFault)
check_texts_asked name = certified_asked name >>= texts_with

abbrev pub certificate_from : List ℕ → Read → Result (List ℕ) RunFault
certificate_from name (Bytes bytes) = Ok bytes
certificate_from name TooLong = Err run.CertificateTooLong
certificate_from name Failed = Err (run.ReadFailed name)

-- at most 128 MiB
unfoldable pub certificate_asked : Option (List ℕ) → Asking (Result (List ℕ) RunFault)
certificate_asked None = Done (Err certificate_missing)
certificate_asked (Some name) = Ask name 134217728 (λ read. Done (certificate_from name read))
