-- The status of a refusal is none of an answer; one that tells of the content of a file is 2, 3 or 4.
use Rattle.std.proofs.Common.{◌≤◌, refl, arith}
use Rattle.std.specs.Prelude.{◌≢◌}
use Rattle.wm_report.specs.declared.fault.RunFault.{RunFault}
use Rattle.wm_report.specs.declared.fault.RunFault.TheVariants.{SourcesTooLong, Source, TooMany, NoFrame, NoInit, BadInput, FileTooLong, NotToml, MissingKey, UnknownKey, BadValue, BadKey, BadNumber, MissingWeight, Rest, OutOfRange, CertificateTooLong, BadText, WrongHeads, NotInductive, ReadFailed, WriteFailed, Memory, Words}
use Rattle.wm_report.specs.Fault.{status_of}
use Rattle.wm_run.proofs.Fair.{IsPlain}

pub above_one : (fault : RunFault) → 2 ≤ status_of fault
above_one SourcesTooLong = omega arith
above_one (Source fault at) = omega arith
above_one (TooMany what at) = omega arith
above_one (NoFrame name) = omega arith
above_one (NoInit name) = omega arith
above_one (BadInput name) = omega arith
above_one (FileTooLong name) = omega arith
above_one (NotToml name) = omega arith
above_one (MissingKey key) = omega arith
above_one (UnknownKey key) = omega arith
above_one (BadValue key) = omega arith
above_one (BadKey key) = omega arith
above_one (BadNumber key) = omega arith
above_one (MissingWeight word) = omega arith
above_one (Rest bytes) = omega arith
above_one (OutOfRange frame name cell value) = omega arith
above_one CertificateTooLong = omega arith
above_one (BadText line) = omega arith
above_one WrongHeads = omega arith
above_one (NotInductive gap) = omega arith
above_one (ReadFailed name) = omega arith
above_one (WriteFailed name) = omega arith
above_one Memory = omega arith
above_one Words = omega arith

pub plain_low : (fault : RunFault) → IsPlain fault → fault ≢ Memory → status_of fault ≤ 4
plain_low SourcesTooLong plain own = omega arith
plain_low (Source fault at) plain own = omega arith
plain_low (TooMany what at) plain own = omega arith
plain_low (NoFrame name) plain own = omega arith
plain_low (NoInit name) plain own = omega arith
plain_low (BadInput name) plain own = omega arith
plain_low (FileTooLong name) plain own = omega arith
plain_low (NotToml name) plain own = omega arith
plain_low (MissingKey key) plain own = omega arith
plain_low (UnknownKey key) plain own = omega arith
plain_low (BadValue key) plain own = omega arith
plain_low (BadKey key) plain own = omega arith
plain_low (BadNumber key) plain own = omega arith
plain_low (MissingWeight word) plain own = omega arith
plain_low (Rest bytes) plain own = omega arith
plain_low (OutOfRange frame name cell value) plain own = omega arith
plain_low CertificateTooLong plain own = omega arith
plain_low (BadText line) plain own = omega arith
plain_low WrongHeads plain own = omega arith
plain_low (NotInductive gap) plain own = omega arith
plain_low (ReadFailed name) plain own = absurd plain
plain_low (WriteFailed name) plain own = absurd plain
plain_low Memory plain own = absurd (own refl)
plain_low Words plain own = absurd plain
