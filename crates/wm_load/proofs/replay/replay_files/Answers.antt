use Rattle.wm_load.specs.Loaded.{loaded_of}
use Rattle.wm_load.proofs.FilesLoaded.{replay_on, replay_off}
use Rattle.wm_load.proofs.replay.replay_files.Goals as goal

pub returns-in-Ok-clause-given : goal.returns-in-Ok-clause-given
returns-in-Ok-clause-given g c =
    replay_on (g.F.Files.held c.args.files.now) (g.F.Files.faults c.args.files.now) (g.F.Files.faults c.load.new.files) (g.F.Files.faults c.with_samples.new.files)
    c.args.spec.now c.args.samples.now (loaded_of c.in-Ok.loaded) c.with_samples.result c.load.ensures.count c.with_samples.ensures.count
    c.in-Ok.ensures.given (rw c.load.ensures.held at c.with_samples.ensures.given)

pub returns-in-Err-clause-given : goal.returns-in-Err-clause-given
returns-in-Err-clause-given g c =
    replay_off (g.F.Files.held c.args.files.now) (g.F.Files.faults c.args.files.now) (g.F.Files.faults c.load.new.files)
    c.args.spec.now c.args.samples.now c.in-Err.fault c.in-Err.ensures.given
