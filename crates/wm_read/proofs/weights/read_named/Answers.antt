use Rattle.wm_read.specs.Files.{weights_from, weights_asked}
use Rattle.wm_read.specs.Seen.{read_of, same}
use Rattle.wm_read.proofs.Asked.{reads_one}
use Rattle.wm_read.proofs.weights.read_named.Goals as goal

pub returns-in-Ok-clause-given : goal.returns-in-Ok-clause-given
unfolding weights_asked
returns-in-Ok-clause-given g c =
    reads_one same (g.F.Files.held c.args.files.now) (g.F.Files.faults c.args.files.now) (g.F.Files.faults c.input_of.new.files)
    c.args.name.now 1048576 (weights_from c.args.name.now) (read_of c.in-Ok.input) c.weights_of.result
    (rw c.bytes.ensures.bytes at c.in-Ok.ensures.given) (rw c.bytes-in-Ok.ensures.bytes at c.weights_of.ensures)
