use Rattle.wm_load.specs.Loaded.{loaded_of}
use Rattle.wm_load.specs.Loading.{load_asked}
use Rattle.wm_run.specs.Leads.{Reading}
use Rattle.wm_run.specs.Proved.{WorstAs}
use Rattle.wm_run.specs.World.{world_of}
use Rattle.wm_run.proofs.Leading.{reading_leads, refusal_leads}
use Rattle.wm_run.proofs.proving.worst.Goals as goal

pub returns-in-Ok-clause-leads : goal.returns-in-Ok-clause-leads
returns-in-Ok-clause-leads g c =
    reading_leads (world_of (g.F.Files.held c.args.files.now) (g.F.Files.held c.load.new.files) (g.F.Files.faults c.args.files.now) (g.F.Files.faults c.load.new.files))
    (load_asked c.args.name.now) WorstAs (loaded_of c.in-Ok.loaded) c.worst_loaded.result c.load.ensures.held c.in-Ok.ensures.given c.worst_loaded.ensures.worst

pub returns-in-Err-clause-leads : goal.returns-in-Err-clause-leads
returns-in-Err-clause-leads g c =
    let world = (world_of (g.F.Files.held c.args.files.now) (g.F.Files.held c.load.new.files) (g.F.Files.faults c.args.files.now) (g.F.Files.faults c.load.new.files)) in
    refusal_leads world (load_asked c.args.name.now) (Reading world WorstAs) c.in-Err.fault c.refused.result c.load.ensures.held c.in-Err.ensures.given c.refused.ensures.value c.refused.ensures.own
