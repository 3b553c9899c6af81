use Rattle.std.proofs.Common.{List, sym, subst}
use Rattle.std.specs.Prelude.{All}
use Rattle.wm_cert_text.specs.declared.told.Pair.{Pair}
use Rattle.wm_told.specs.Tells.{IsPairOf}
use Rattle.wm_told.proofs.Pushed.{right_pushed}
use Rattle.wm_told.proofs.pairs.push_pair.Goals as goal

pub returns-clause-right : goal.returns-clause-right
returns-clause-right g c =
    let item : Pair = record { kind = c.args.kind; first = c.args.first; second = c.args.second; ends = c.in_ok-ends.ends } in
    subst (λ (xs : List Pair). All (IsPairOf (g.D.Domain.holds c.args.state.now)) xs) (sym c.in_ok-push.ensures.grown)
    (right_pushed (g.D.Domain.holds c.args.state.now) c.args.pairs.now item c.requires.right c.in_ok-ends.ensures.exact)
