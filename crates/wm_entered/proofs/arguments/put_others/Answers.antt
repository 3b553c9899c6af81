use Rattle.std.proofs.Common.{◌≡◌, ◌∙◌, refl, subst, rules}
use Rattle.std.specs.Prelude.{slice_index_or}
use Rattle.wm_flow.specs.declared.action.Argument.{Argument}
use Rattle.wm_assign.specs.Giving.{InRange}
use Rattle.wm_filters.proofs.Staying.{stays_same, stays_then}
use Rattle.wm_entered.proofs.arguments.put_others.Goals as goal

pub loop-k-init : goal.loop-k-init
loop-k-init g c = record {
  shape = refl;
  kept = stays_same g.D.Domain.holds (g.D.Domain.shape_of c.args.state.now) c.args.state.now _;
}

pub loop-k-preserved : goal.loop-k-preserved
loop-k-preserved g c =
    let Has = g.D.Domain.holds c.args.at.now in
    let it = c.index-arguments-k.result in
    let e : slice_index_or c.args.arguments.now c.loop-k.k it ≡ it = search rules in
    record {
      shape = c.put_other.ensures.shape ∙ c.loop-k.invariant.shape;
      kept = stays_then g.D.Domain.holds (g.D.Domain.shape_of c.args.state.now) (g.D.Domain.shape_of c.loop-k.state) c.args.state.now c.loop-k.state c.put_other.new.state _ _ c.loop-k.invariant.shape
          (λ p i k. subst (λ (a : Argument). InRange Has a.form (p.values a.parameter)) e (k c.loop-k.k it c.loop-k-test.true)) c.loop-k.invariant.kept c.put_other.ensures.kept;
    }
