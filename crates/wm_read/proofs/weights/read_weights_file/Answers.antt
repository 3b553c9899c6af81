use Rattle.wm_read.proofs.TextsRead.{ones_read}
use Rattle.wm_read.proofs.weights.read_weights_file.Goals as goal

pub returns-in-None-clause-given : goal.returns-in-None-clause-given
returns-in-None-clause-given g c =
    rw c.in-None.is (ones_read (g.F.Files.held c.args.files.now) (g.F.Files.faults c.args.files.now) (g.F.Files.faults c.args.files.now) c.all_ones.result c.all_ones.ensures.ones)
