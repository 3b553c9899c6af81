-- Why a certificate is refused.
use Rattle.std.specs.Prelude.{◌≡◌, ◌⊎◌, ℕ, Bool, true, List, Ok, Err, ⊤}
use Rattle.wm_report.specs.declared.fault.RunFault.{RunFault}
use Rattle.wm_report.specs.declared.fault.RunFault.TheVariants as run
use Rattle.wm_cert_fault.specs.declared.fault.CertFault.{CertFault}
use Rattle.wm_cert_fault.specs.declared.fault.CertFault.TheVariants as fault
use Rattle.wm_cert_read.specs.Whole.{read}
use Rattle.wm_cert_text.specs.declared.told.Head.{Head}
use Rattle.wm_check.specs.declared.checking.CheckFault.{CheckFault}
use Rattle.wm_check.specs.declared.checking.CheckFault.TheVariants as checks

abbrev pub cert_fault : CertFault → RunFault
cert_fault (fault.BadText line) = run.BadText line
cert_fault fault.WrongHeads = run.WrongHeads
cert_fault fault.NoMemory = run.Memory

abbrev pub check_fault : CheckFault → RunFault
check_fault (checks.NotInductive gap) = run.NotInductive gap
check_fault checks.NoMemory = run.Memory

-- the bytes are the text of some certificate
pub record IsText (pairs : Bool) (bytes : List ℕ) : Type 0 where
  pub heads : List Head
  pub read_as : read pairs bytes ≡ Ok heads

-- from this line on the bytes begin no text of a certificate
abbrev pub IsBadText : (pairs : Bool) → List ℕ → (line : ℕ) → Type 0
IsBadText pairs bytes line = (read true bytes ≡ Err line) ⊎ (read pairs bytes ≡ Err line)

-- The bytes are no text, with the first line through which they begin none; or they are one, of other heads or of one that is not
-- accepted. Nothing else refuses a certificate.
abbrev pub Refuses : (pairs : Bool) → List ℕ → RunFault → Type 0
Refuses pairs bytes run.SourcesTooLong = ⊥
Refuses pairs bytes (run.Source fault at) = ⊥
Refuses pairs bytes (run.TooMany what at) = ⊥
Refuses pairs bytes (run.NoFrame name) = ⊥
Refuses pairs bytes (run.NoInit name) = ⊥
Refuses pairs bytes (run.BadInput name) = ⊥
Refuses pairs bytes (run.FileTooLong name) = ⊥
Refuses pairs bytes (run.NotToml name) = ⊥
Refuses pairs bytes (run.MissingKey key) = ⊥
Refuses pairs bytes (run.UnknownKey key) = ⊥
Refuses pairs bytes (run.BadValue key) = ⊥
Refuses pairs bytes (run.BadKey key) = ⊥
Refuses pairs bytes (run.BadNumber key) = ⊥
Refuses pairs bytes (run.MissingWeight word) = ⊥
Refuses pairs bytes (run.Rest count) = ⊥
Refuses pairs bytes (run.OutOfRange frame name cell value) = ⊥
Refuses pairs bytes run.CertificateTooLong = ⊥
Refuses pairs bytes (run.BadText line) = IsBadText pairs bytes line
Refuses pairs bytes run.WrongHeads = IsText true bytes ⊎ IsText pairs bytes
Refuses pairs bytes (run.NotInductive gap) = IsText pairs bytes
Refuses pairs bytes (run.ReadFailed name) = ⊥
Refuses pairs bytes (run.WriteFailed name) = ⊥
Refuses pairs bytes run.Memory = ⊤
Refuses pairs bytes run.Words = ⊥
