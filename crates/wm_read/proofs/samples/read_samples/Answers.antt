use Rattle.wm_samples.specs.Seen.{values_of}
use Rattle.wm_read.specs.Files.{samples_from, samples_asked}
use Rattle.wm_read.specs.Seen.{read_of}
use Rattle.wm_read.proofs.Asked.{reads_one}
use Rattle.wm_read.proofs.samples.read_samples.Goals as goal

pub returns-in-Ok-clause-given : goal.returns-in-Ok-clause-given
unfolding samples_asked
returns-in-Ok-clause-given g c =
    reads_one values_of (g.F.Files.held c.args.files.now) (g.F.Files.faults c.args.files.now) (g.F.Files.faults c.input_of.new.files)
    c.args.name.now 16777216 (samples_from c.args.program.now c.args.name.now) (read_of c.in-Ok.input) c.samples_of.result c.in-Ok.ensures.given c.samples_of.ensures
