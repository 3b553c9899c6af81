use Rattle.wm_load.specs.Replay.{replay_of}
use Rattle.wm_load.specs.Replaying.{replay_asked}
use Rattle.wm_run.specs.Leads.{Reading}
use Rattle.wm_run.specs.Sampled.{ReplayedAs}
use Rattle.wm_run.specs.World.{world_of}
use Rattle.wm_run.proofs.Leading.{reading_leads, refusal_leads}
use Rattle.wm_run.proofs.sampling.replay.Goals as goal

pub returns-in-Ok-clause-leads : goal.returns-in-Ok-clause-leads
returns-in-Ok-clause-leads g c =
    reading_leads (world_of (g.F.Files.held c.args.files.now) (g.F.Files.held c.replay_files.new.files) (g.F.Files.faults c.args.files.now) (g.F.Files.faults c.replay_files.new.files))
    (replay_asked c.args.spec.now c.args.samples.now) ReplayedAs (replay_of c.in-Ok.given) c.replay_given.result c.replay_files.ensures.held c.in-Ok.ensures.given c.replay_given.ensures.replayed

pub returns-in-Err-clause-leads : goal.returns-in-Err-clause-leads
returns-in-Err-clause-leads g c =
    let world = (world_of (g.F.Files.held c.args.files.now) (g.F.Files.held c.replay_files.new.files) (g.F.Files.faults c.args.files.now) (g.F.Files.faults c.replay_files.new.files)) in
    refusal_leads world (replay_asked c.args.spec.now c.args.samples.now) (Reading world ReplayedAs) c.in-Err.fault c.refused.result c.replay_files.ensures.held c.in-Err.ensures.given c.refused.ensures.value c.refused.ensures.own
