use Rattle.std.proofs.Common.{w64, rules}
use Rattle.std.specs.Prelude.{FitsSigned}
use Rattle.std.proofs.lemmas.Int.{to_z-of_z}
use Rattle.wm_grid.proofs.Stepping.{stepped_all}
use Rattle.wm_grid.proofs.beside.push_stepped.Goals as goal

pub returns : goal.returns
returns c =
    let fits : FitsSigned w64 c.args.c = search rules in
    stepped_all _ _ c.args.c c.args.steps.now c.loop-step.step-index c.loop-step-test.false (simp to_z-of_z at c.loop-step.invariant)
