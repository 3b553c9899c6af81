use Rattle.wm_program.specs.Settings.{settings_of}
use Rattle.wm_read.specs.Certificate.{certified_asked, check_texts_asked}
use Rattle.wm_read.specs.Files.{texts_with}
use Rattle.wm_read.specs.Given.{given_of}
use Rattle.wm_read.proofs.Asked.{reads_on, reads_off}
use Rattle.wm_read.proofs.texts.read_check_texts.Goals as goal

pub returns-in-Ok-clause-given : goal.returns-in-Ok-clause-given
unfolding check_texts_asked
returns-in-Ok-clause-given g c =
    reads_on given_of (g.F.Files.held c.args.files.now) (g.F.Files.faults c.args.files.now) (g.F.Files.faults c.read_certified.new.files) (g.F.Files.faults c.with_spec.new.files)
    (certified_asked c.args.name.now) texts_with (settings_of c.in-Ok.spec) c.with_spec.result c.read_certified.ensures.count c.with_spec.ensures.count
    c.in-Ok.ensures.given (rw c.read_certified.ensures.held at c.with_spec.ensures.given)

pub returns-in-Err-clause-given : goal.returns-in-Err-clause-given
unfolding check_texts_asked
returns-in-Err-clause-given g c =
    reads_off (g.F.Files.held c.args.files.now) (g.F.Files.faults c.args.files.now) (g.F.Files.faults c.read_certified.new.files)
    (certified_asked c.args.name.now) texts_with c.in-Err.fault c.in-Err.ensures.given
