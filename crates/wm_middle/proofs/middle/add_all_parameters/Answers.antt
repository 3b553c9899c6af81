use Rattle.std.proofs.Common.{◌≡◌, subst, rules}
use Rattle.std.specs.Prelude.{slice_index_or}
use Rattle.wm_flow.specs.declared.action.Argument.{Argument}
use Rattle.wm_middle.specs.Parting.{IsArgument}
use Rattle.wm_middle.proofs.middle.add_all_parameters.Goals as goal

pub loop-k-preserved : goal.loop-k-preserved
loop-k-preserved c =
    let e : slice_index_or c.args.arguments.now c.loop-k.k c.index-arguments-k.result ≡ c.index-arguments-k.result = search rules in
    record {
      few = c.in_ok-add_parameter.ensures.few;
      good = λ n m h a. c.in_ok-add_parameter.ensures.good n m (subst (λ (it : Argument). IsArgument n m it) e (h c.loop-k.k c.index-arguments-k.result c.loop-k-test.true)) (c.loop-k.invariant.good n m h a);
    }
