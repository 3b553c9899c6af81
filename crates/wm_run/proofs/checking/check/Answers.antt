use Rattle.wm_load.specs.Check.{check_of}
use Rattle.wm_load.specs.Checking.{check_asked}
use Rattle.wm_run.specs.Leads.{Reading}
use Rattle.wm_run.specs.Proved.{CheckedAs}
use Rattle.wm_run.specs.World.{world_of}
use Rattle.wm_run.proofs.Leading.{reading_leads, refusal_leads}
use Rattle.wm_run.proofs.checking.check.Goals as goal

pub returns-in-Ok-clause-leads : goal.returns-in-Ok-clause-leads
returns-in-Ok-clause-leads g c =
    reading_leads (world_of (g.F.Files.held c.args.files.now) (g.F.Files.held c.check_files.new.files) (g.F.Files.faults c.args.files.now) (g.F.Files.faults c.check_files.new.files))
    (check_asked c.args.name.now) CheckedAs (check_of c.in-Ok.given) c.check_given.result c.check_files.ensures.held c.in-Ok.ensures.given c.check_given.ensures.checked

pub returns-in-Err-clause-leads : goal.returns-in-Err-clause-leads
returns-in-Err-clause-leads g c =
    let world = (world_of (g.F.Files.held c.args.files.now) (g.F.Files.held c.check_files.new.files) (g.F.Files.faults c.args.files.now) (g.F.Files.faults c.check_files.new.files)) in
    refusal_leads world (check_asked c.args.name.now) (Reading world CheckedAs) c.in-Err.fault c.refused.result c.check_files.ensures.held c.in-Err.ensures.given c.refused.ensures.value c.refused.ensures.own
