-- The fault of a text as one of a certificate.
use Rattle.wm_cert_read.specs.declared.fault.TextFault.{TextFault}
use Rattle.wm_cert_read.specs.declared.fault.TextFault.TheVariants as text
use Rattle.wm_cert_fault.specs.declared.fault.CertFault.{CertFault}
use Rattle.wm_cert_fault.specs.declared.fault.CertFault.TheVariants as fault

abbrev pub of_text : TextFault → CertFault
of_text (text.BadText line) = fault.BadText line
of_text text.NoMemory = fault.NoMemory
