use Rattle.wm_program.specs.Settings.{settings_of}
use Rattle.wm_read.specs.Given.{sources_of}
use Rattle.wm_read.proofs.TextsRead.{texts_done, texts_failed}
use Rattle.wm_read.proofs.texts.with_weights.Goals as goal

pub returns-in-Ok-clause-given : goal.returns-in-Ok-clause-given
returns-in-Ok-clause-given g c =
    texts_done (g.F.Files.held c.args.files.now) (g.F.Files.faults c.args.files.now) (g.F.Files.faults c.read_sources.new.files) (settings_of c.args.spec) c.args.weights
    (sources_of c.in-Ok.sources) c.read_sources.ensures.count (rw c.items.ensures.items at c.in-Ok.ensures.given)

pub returns-in-Err-clause-given : goal.returns-in-Err-clause-given
returns-in-Err-clause-given g c =
    texts_failed (g.F.Files.held c.args.files.now) (g.F.Files.faults c.args.files.now) (g.F.Files.faults c.read_sources.new.files) (settings_of c.args.spec) c.args.weights
    c.in-Err.fault (rw c.items.ensures.items at c.in-Err.ensures.given)
