use Rattle.std.proofs.Common.{ap}
use Rattle.wm_read.specs.Seen.{texts_of}
use Rattle.wm_load.proofs.ProgramRead.{with_program, without_program}
use Rattle.wm_load.proofs.loaded.load_texts.Goals as goal

pub returns-in-Ok : goal.returns-in-Ok
returns-in-Ok c =
    with_program c.args.texts.spec c.args.texts.weights (texts_of c.args.texts.sources.items) (texts_of c.deref.result.now) (ap texts_of c.deref.ensures.value)
    c.in-Ok.program c.weighed.result c.in-Ok.ensures c.weighed.ensures

pub returns-in-Err : goal.returns-in-Err
returns-in-Err c =
    without_program c.args.texts.spec c.args.texts.weights (texts_of c.args.texts.sources.items) (texts_of c.deref.result.now) (ap texts_of c.deref.ensures.value)
    c.in-Err.fault c.in-Err.ensures
