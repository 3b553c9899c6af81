use Rattle.std.proofs.Common.{◌≡◌, ◌∙◌, refl, subst, rules}
use Rattle.std.specs.Prelude.{slice_index_or}
use Rattle.wm_flow.specs.declared.action.Argument.{Argument}
use Rattle.wm_assign.specs.Giving.{IsGiven}
use Rattle.wm_entered.proofs.Passing.{crosses_same, crosses_then}
use Rattle.wm_entered.proofs.arguments.put_arguments.Goals as goal

pub loop-k-init : goal.loop-k-init
loop-k-init g c = record {
  shape = refl;
  kept = crosses_same g.D.Domain.holds (g.D.Domain.shape_of c.args.state.now) c.args.between.now.parts.now c.args.state.now _;
}

pub loop-k-preserved : goal.loop-k-preserved
loop-k-preserved g c =
    let Has = g.D.Domain.holds c.args.at.now in
    let it = c.index-arguments-k.result in
    let e : slice_index_or c.args.arguments.now c.loop-k.k it ≡ it = search rules in
    record {
      shape = c.in_ok-put_argument.ensures.shape ∙ c.loop-k.invariant.shape;
      kept = crosses_then g.D.Domain.holds (g.D.Domain.shape_of c.args.state.now) (g.D.Domain.shape_of c.loop-k.state) c.args.between.now.parts.now c.args.state.now c.loop-k.state c.put_argument.new.state _ _ c.loop-k.invariant.shape
          (λ was p k. (k.0, subst (λ (a : Argument). IsGiven Has a.form was (p.values a.parameter)) e (k.1 c.loop-k.k it c.loop-k-test.true))) c.loop-k.invariant.kept c.in_ok-put_argument.ensures.kept;
    }
