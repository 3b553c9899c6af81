use Rattle.wm_load.specs.Loaded.{loaded_of}
use Rattle.wm_load.proofs.FilesLoaded.{replay_done, replay_failed}
use Rattle.wm_load.proofs.replay.with_samples.Goals as goal

pub returns-in-Ok-clause-given : goal.returns-in-Ok-clause-given
returns-in-Ok-clause-given g c =
    replay_done (g.F.Files.held c.args.files.now) (g.F.Files.faults c.args.files.now) (g.F.Files.faults c.read_samples.new.files)
    c.args.samples.now c.args.loaded c.in-Ok.frames c.read_samples.ensures.count c.in-Ok.ensures.given

pub returns-in-Err-clause-given : goal.returns-in-Err-clause-given
returns-in-Err-clause-given g c =
    replay_failed (g.F.Files.held c.args.files.now) (g.F.Files.faults c.args.files.now) (g.F.Files.faults c.read_samples.new.files)
    c.args.samples.now (loaded_of c.args.loaded) c.in-Err.fault c.in-Err.ensures.given
