use Rattle.std.proofs.Common.{ap, arith}
use Rattle.std.proofs.lemmas.Bool.Decides.{nat_tests}
use Rattle.std.specs.Prelude.{◌≤◌, length}
use Rattle.wm_program.specs.Code.{Routine, routine_at}
use Rattle.wm_places.specs.Seen.{plan_of}
use Rattle.wm_parts.proofs.PartsDrawn.{none_is, routine_past}
use Rattle.wm_parts.proofs.parts.body_in.Goals as goal

pub returns-in-None : goal.returns-in-None
unfolding plan_of
returns-in-None c =
    let functions = c.args.plan.now.program.now.functions in
    let behind : length functions ≤ c.args.scene.function = grind (arith, nat_tests, c.in-None.ensures.lookup, c.items.ensures.items) in
    none_is (plan_of c.args.plan.now) c.args.scene (routine_at (plan_of c.args.plan.now).code c.args.scene.function).body c.args.pen.now (ap (λ (it : Routine). it.body) (routine_past functions c.args.scene.function behind))
