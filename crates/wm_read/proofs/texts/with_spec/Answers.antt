use Rattle.wm_program.specs.Settings.{settings_of}
use Rattle.wm_read.specs.Files.{weights_asked, texts_with, texts_behind}
use Rattle.wm_read.specs.Given.{given_of}
use Rattle.wm_read.proofs.Asked.{reads_on, reads_off}
use Rattle.wm_read.proofs.texts.with_spec.Goals as goal

pub returns-in-Ok-clause-given : goal.returns-in-Ok-clause-given
unfolding texts_with
returns-in-Ok-clause-given g c =
    reads_on given_of (g.F.Files.held c.args.files.now) (g.F.Files.faults c.args.files.now) (g.F.Files.faults c.read_weights_file.new.files) (g.F.Files.faults c.with_weights.new.files)
    (weights_asked c.args.spec.weights) (texts_behind (settings_of c.args.spec)) c.in-Ok.weights c.with_weights.result c.read_weights_file.ensures.count c.with_weights.ensures.count
    c.in-Ok.ensures.given (rw c.read_weights_file.ensures.held at c.with_weights.ensures.given)

pub returns-in-Err-clause-given : goal.returns-in-Err-clause-given
unfolding texts_with
returns-in-Err-clause-given g c =
    reads_off (g.F.Files.held c.args.files.now) (g.F.Files.faults c.args.files.now) (g.F.Files.faults c.read_weights_file.new.files)
    (weights_asked c.args.spec.weights) (texts_behind (settings_of c.args.spec)) c.in-Err.fault c.in-Err.ensures.given
