use Rattle.wm_domain.specs.States.{IsBare}
use Rattle.wm_sight.proofs.Trying.{not_bare, none_set}
use Rattle.wm_sight.proofs.trials.read.Goals as goal

pub returns-in-Empty : goal.returns-in-Empty
returns-in-Empty g c =
    let Has = g.D.Domain.holds c.args.label.now in (
      not_bare c.is_empty.result (IsBare Has) c.if-is_empty.false c.is_empty.ensures.points,
      none_set Has c.args.array c.in-Some.summary c.in-Empty.is c.in-Some.ensures.exact,
    )
