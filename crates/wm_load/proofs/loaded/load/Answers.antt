use Rattle.wm_read.specs.Given.{given_of}
use Rattle.wm_load.proofs.FilesLoaded.{load_on, load_off}
use Rattle.wm_load.proofs.loaded.load.Goals as goal

pub returns-in-Ok-clause-given : goal.returns-in-Ok-clause-given
returns-in-Ok-clause-given g c =
    load_on (g.F.Files.held c.args.files.now) (g.F.Files.faults c.args.files.now) (g.F.Files.faults c.read_texts.new.files)
    c.args.name.now (given_of c.in-Ok.texts) c.load_texts.result c.read_texts.ensures.count c.in-Ok.ensures.given c.load_texts.ensures

pub returns-in-Err-clause-given : goal.returns-in-Err-clause-given
returns-in-Err-clause-given g c =
    load_off (g.F.Files.held c.args.files.now) (g.F.Files.faults c.args.files.now) (g.F.Files.faults c.read_texts.new.files)
    c.args.name.now c.in-Err.fault c.in-Err.ensures.given
