-- The machine stands where the run of the static values and init has come to.
use Rattle.wm_interp.proofs.Runs.{kept_stands}
use Rattle.wm_interp.specs.Standing.{code_in, weights_in}
use Rattle.wm_interp.proofs.machine.Machine.start.Goals as goal

pub returns-in-Ok-clause-stands : goal.returns-in-Ok-clause-stands
returns-in-Ok-clause-stands c =
    kept_stands c.keep.result (code_in c.args.self.now) (weights_in c.args.self.now) c.args.fill.items c.args.steps _ _ c.keep.ensures.kept c.in-Ok.ensures
