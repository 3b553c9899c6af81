use Rattle.wm_load.specs.Loaded.{loaded_of}
use Rattle.wm_load.proofs.CheckLoaded.{check_done, check_failed}
use Rattle.wm_load.proofs.check.with_certificate.Goals as goal

pub returns-in-Ok-clause-given : goal.returns-in-Ok-clause-given
returns-in-Ok-clause-given g c =
    check_done (g.F.Files.held c.args.files.now) (g.F.Files.faults c.args.files.now) (g.F.Files.faults c.read_certificate.new.files)
    c.args.loaded c.in-Ok.certificate c.read_certificate.ensures.count c.in-Ok.ensures.given

pub returns-in-Err-clause-given : goal.returns-in-Err-clause-given
returns-in-Err-clause-given g c =
    check_failed (g.F.Files.held c.args.files.now) (g.F.Files.faults c.args.files.now) (g.F.Files.faults c.read_certificate.new.files)
    (loaded_of c.args.loaded) c.in-Err.fault c.in-Err.ensures.given
