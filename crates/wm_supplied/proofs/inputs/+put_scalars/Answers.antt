use Rattle.std.proofs.Common.{◌≡◌, ◌<◌, ℕ, All, length, sym, subst, rules}
use Rattle.wm_interval.specs.Holds.{Holds}
use Rattle.wm_domain.specs.declared.shape.Shape.{Shape}
use Rattle.wm_domain.specs.States.{count_of, IsShape, InShape}
use Rattle.wm_flow.specs.declared.action.Given.{Given}
use Rattle.wm_supplied.proofs.Supplying.{rest_shorter, first_of, rest_of}
use Rattle.wm_supplied.proofs.inputs.+put_scalars.Goals as goal

pub put_scalars-requires : goal.put_scalars-requires
put_scalars-requires g t c κs within =
    let shorter : length c.in-Some.rest.now < length c.args.scalars.now = rest_shorter c.in-Some.it.now c.in-Some.rest.now c.args.scalars.now c.in-Some.ensures.cases.0 in
    let shaped = subst IsShape (sym c.put_range.ensures.shape) c.requires.shaped in
    let inside =
    subst (λ (x : Shape). All (λ (y : Given). y.target < count_of x) c.in-Some.rest.now) (sym c.put_range.ensures.shape)
    (rest_of (λ (y : Given). y.target < count_of (g.D.Domain.shape_of c.args.state.now)) c.in-Some.it.now c.in-Some.rest.now c.args.scalars.now c.in-Some.ensures.cases.0 c.requires.inside) in
    (search rules, (search rules, (shaped, inside)))

pub returns-in-Some-clause-kept : goal.returns-in-Some-clause-kept
returns-in-Some-clause-kept g t c = record {
  kept = λ p i h k.
      c.put_scalars.ensures.kept.kept p (subst (λ (x : Shape). InShape x p) (sym c.put_range.ensures.shape) i)
      (c.put_range.ensures.kept p i h (first_of (λ (y : Given). Holds y.range (p.values y.target)) c.in-Some.it.now c.in-Some.rest.now c.args.scalars.now c.in-Some.ensures.cases.0 k))
      (rest_of (λ (y : Given). Holds y.range (p.values y.target)) c.in-Some.it.now c.in-Some.rest.now c.args.scalars.now c.in-Some.ensures.cases.0 k);
}
