use Rattle.wm_program.specs.Settings.{settings_of}
use Rattle.wm_read.specs.Files.{settings_from, specification_asked}
use Rattle.wm_read.specs.Seen.{read_of}
use Rattle.wm_read.proofs.Asked.{reads_one}
use Rattle.wm_read.proofs.specification.read_specification.Goals as goal

pub returns-in-Ok-clause-given : goal.returns-in-Ok-clause-given
unfolding specification_asked
returns-in-Ok-clause-given g c =
    reads_one settings_of (g.F.Files.held c.args.files.now) (g.F.Files.faults c.args.files.now) (g.F.Files.faults c.input_of.new.files)
    c.args.name.now 1048576 (settings_from c.args.name.now) (read_of c.in-Ok.input) c.spec_of.result c.in-Ok.ensures.given c.spec_of.ensures
