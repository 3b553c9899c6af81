use Rattle.wm_read.specs.Certificate.{certificate_asked, certificate_missing}
use Rattle.wm_read.specs.Seen.{bytes_of}
use Rattle.wm_read.proofs.Asked.{refuses}
use Rattle.wm_read.proofs.certificate.read_certificate.Goals as goal

pub returns-in-None-clause-given : goal.returns-in-None-clause-given
unfolding certificate_asked
returns-in-None-clause-given g c =
    rw c.in-None.is (refuses (g.F.Files.held c.args.files.now) (g.F.Files.faults c.args.files.now) (g.F.Files.faults c.args.files.now) bytes_of certificate_missing c.certificate_missing.result c.certificate_missing.ensures)
