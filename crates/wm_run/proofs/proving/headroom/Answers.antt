use Rattle.wm_load.specs.Loaded.{loaded_of}
use Rattle.wm_load.specs.Loading.{load_asked}
use Rattle.wm_run.specs.Leads.{Reading}
use Rattle.wm_run.specs.Proved.{HeadroomAs}
use Rattle.wm_run.specs.World.{world_of}
use Rattle.wm_run.proofs.Leading.{reading_leads, refusal_leads}
use Rattle.wm_run.proofs.proving.headroom.Goals as goal

pub returns-in-Ok-clause-leads : goal.returns-in-Ok-clause-leads
returns-in-Ok-clause-leads g c =
    reading_leads (world_of (g.F.Files.held c.args.files.now) (g.F.Files.held c.load.new.files) (g.F.Files.faults c.args.files.now) (g.F.Files.faults c.load.new.files))
    (load_asked c.args.name.now) HeadroomAs (loaded_of c.in-Ok.loaded) c.headroom_loaded.result c.load.ensures.held c.in-Ok.ensures.given c.headroom_loaded.ensures.headroom

pub returns-in-Err-clause-leads : goal.returns-in-Err-clause-leads
returns-in-Err-clause-leads g c =
    let world = (world_of (g.F.Files.held c.args.files.now) (g.F.Files.held c.load.new.files) (g.F.Files.faults c.args.files.now) (g.F.Files.faults c.load.new.files)) in
    refusal_leads world (load_asked c.args.name.now) (Reading world HeadroomAs) c.in-Err.fault c.refused.result c.load.ensures.held c.in-Err.ensures.given c.refused.ensures.value c.refused.ensures.own
