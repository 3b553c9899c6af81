use Rattle.std.proofs.Common.{◌≡◌, ◌∷◌, [], true, subst, sym, ◌∙◌, ap}
use Rattle.wm_failing.specs.declared.trial.Trial.TheVariants.{Applies}
use Rattle.wm_ops.specs.Operators.{arity_of}
use Rattle.wm_sight.specs.Sights.{IsShown, shown_of}
use Rattle.wm_sight.proofs.Trying.{applied_by}
use Rattle.wm_sight.proofs.trials.applied.Goals as goal

pub returns : goal.returns
returns c =
    let e : c.shown.result ≡ shown_of c.args.fits (arity_of c.args.op) (c.args.x ∷ c.args.y ∷ c.args.z ∷ []) c.first_failing-values.result = c.shown.ensures ∙ ap (λ n. shown_of c.args.fits n (c.args.x ∷ c.args.y ∷ c.args.z ∷ []) c.first_failing-values.result) c.arity.ensures.arity in
    subst (λ s. IsShown (Applies c.args.op) (c.args.fits ≡ true) c.args.x c.args.y c.args.z s) (sym e)
    (applied_by c.args.op c.args.x c.args.y c.args.z c.args.fits c.first_failing-values.result c.requires.first c.requires.second c.requires.third c.first_failing-values.ensures.first)
