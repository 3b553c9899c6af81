use Rattle.std.proofs.Common.{◌≤◌, arith}
use Rattle.wm_program.specs.Settings.{settings_of}
use Rattle.wm_read.specs.Certificate.{certified, certified_asked, certified_behind}
use Rattle.wm_read.specs.Files.{specification_asked}
use Rattle.wm_read.proofs.Asked.{reads_on, reads_off, reads_done}
use Rattle.wm_read.proofs.certificate.read_certified.Goals as goal

pub returns-in-Ok-clause-given : goal.returns-in-Ok-clause-given
unfolding certified_asked
returns-in-Ok-clause-given g c =
    let le : g.F.Files.faults c.read_specification.new.files ≤ g.F.Files.faults c.read_specification.new.files = omega arith in
    reads_on settings_of (g.F.Files.held c.args.files.now) (g.F.Files.faults c.args.files.now) (g.F.Files.faults c.read_specification.new.files) (g.F.Files.faults c.read_specification.new.files)
    (specification_asked c.args.name.now) certified_behind (settings_of c.in-Ok.spec) c.certified.result c.read_specification.ensures.count le
    c.in-Ok.ensures.given
    (reads_done settings_of (g.F.Files.held c.args.files.now) (g.F.Files.faults c.read_specification.new.files) (g.F.Files.faults c.read_specification.new.files) (certified (settings_of c.in-Ok.spec)) c.certified.result c.certified.ensures)

pub returns-in-Err-clause-given : goal.returns-in-Err-clause-given
unfolding certified_asked
returns-in-Err-clause-given g c =
    reads_off (g.F.Files.held c.args.files.now) (g.F.Files.faults c.args.files.now) (g.F.Files.faults c.read_specification.new.files)
    (specification_asked c.args.name.now) certified_behind c.in-Err.fault c.in-Err.ensures.given
