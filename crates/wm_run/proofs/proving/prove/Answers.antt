use Rattle.wm_load.specs.Loaded.{loaded_of}
use Rattle.wm_load.specs.Loading.{load_asked}
use Rattle.wm_run.specs.Proved.{ProvedAs}
use Rattle.wm_run.specs.World.{world_of}
use Rattle.wm_run.proofs.Leading.{prove_leads, refusal_leads}
use Rattle.wm_run.proofs.proving.prove.Goals as goal

pub returns-in-Ok-clause-leads : goal.returns-in-Ok-clause-leads
returns-in-Ok-clause-leads g c =
    prove_leads (g.F.Files.held c.args.files.now) (g.F.Files.held c.load.new.files) (g.F.Files.held c.prove_loaded.new.files)
    (g.F.Files.faults c.args.files.now) (g.F.Files.faults c.load.new.files) (g.F.Files.faults c.prove_loaded.new.files)
    c.args.name.now (loaded_of c.in-Ok.loaded) c.prove_loaded.result c.load.ensures.count c.prove_loaded.ensures.count c.load.ensures.held c.in-Ok.ensures.given c.prove_loaded.ensures.proved

pub returns-in-Err-clause-leads : goal.returns-in-Err-clause-leads
returns-in-Err-clause-leads g c =
    let world = (world_of (g.F.Files.held c.args.files.now) (g.F.Files.held c.load.new.files) (g.F.Files.faults c.args.files.now) (g.F.Files.faults c.load.new.files)) in
    refusal_leads world (load_asked c.args.name.now) (ProvedAs world) c.in-Err.fault c.refused.result c.load.ensures.held c.in-Err.ensures.given c.refused.ensures.value c.refused.ensures.own
