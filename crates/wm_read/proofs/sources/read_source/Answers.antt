use Rattle.wm_read.specs.Files.{source_from, source_asked}
use Rattle.wm_read.specs.Seen.{bytes_of, read_of}
use Rattle.wm_read.proofs.Asked.{reads_one}
use Rattle.wm_read.proofs.sources.read_source.Goals as goal

pub returns-in-Ok-clause-given : goal.returns-in-Ok-clause-given
unfolding source_asked
returns-in-Ok-clause-given g c =
    reads_one bytes_of (g.F.Files.held c.args.files.now) (g.F.Files.faults c.args.files.now) (g.F.Files.faults c.input_of.new.files)
    c.args.name.now c.args.room (source_from c.args.name.now) (read_of c.in-Ok.input) c.source_of.result c.in-Ok.ensures.given c.source_of.ensures.found
