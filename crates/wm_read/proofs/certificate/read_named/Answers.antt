use Rattle.wm_read.specs.Certificate.{certificate_from, certificate_asked}
use Rattle.wm_read.specs.Seen.{bytes_of, read_of}
use Rattle.wm_read.proofs.Asked.{reads_one}
use Rattle.wm_read.proofs.certificate.read_named.Goals as goal

pub returns-in-Ok-clause-given : goal.returns-in-Ok-clause-given
unfolding certificate_asked
returns-in-Ok-clause-given g c =
    reads_one bytes_of (g.F.Files.held c.args.files.now) (g.F.Files.faults c.args.files.now) (g.F.Files.faults c.input_of.new.files)
    c.args.name.now 134217728 (certificate_from c.args.name.now) (read_of c.in-Ok.input) c.certificate_of.result
    (rw c.bytes.ensures.bytes at c.in-Ok.ensures.given) (rw c.bytes-in-Ok.ensures.bytes at c.certificate_of.ensures)
