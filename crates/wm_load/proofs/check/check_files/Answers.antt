use Rattle.wm_load.specs.Loaded.{loaded_of}
use Rattle.wm_load.proofs.CheckLoaded.{check_on, check_off}
use Rattle.wm_load.proofs.check.check_files.Goals as goal

pub returns-in-Ok-clause-given : goal.returns-in-Ok-clause-given
returns-in-Ok-clause-given g c =
    check_on (g.F.Files.held c.args.files.now) (g.F.Files.faults c.args.files.now) (g.F.Files.faults c.load_certified.new.files) (g.F.Files.faults c.with_certificate.new.files)
    c.args.name.now (loaded_of c.in-Ok.loaded) c.with_certificate.result c.load_certified.ensures.count c.with_certificate.ensures.count
    c.in-Ok.ensures.given (rw c.load_certified.ensures.held at c.with_certificate.ensures.given)

pub returns-in-Err-clause-given : goal.returns-in-Err-clause-given
returns-in-Err-clause-given g c =
    check_off (g.F.Files.held c.args.files.now) (g.F.Files.faults c.args.files.now) (g.F.Files.faults c.load_certified.new.files)
    c.args.name.now c.in-Err.fault c.in-Err.ensures.given
