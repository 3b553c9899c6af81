use Rattle.std.proofs.Common.{ℤ, sym, ap, subst}
use Rattle.wm_assign.specs.Giving.{IsGiven}
use Rattle.wm_middle.specs.Parting.{part_at, part_value}
use Rattle.wm_entered.specs.Crossing.{Crosses}
use Rattle.wm_entered.proofs.Passing.{crosses_more, on_ok_map}
use Rattle.wm_entered.proofs.arguments.put_argument.Goals as goal

pub returns-in-None-clause-kept : goal.returns-in-None-clause-kept
returns-in-None-clause-kept g c = record { kept = λ was p i h k. h }

pub returns-in-Some-clause-kept : goal.returns-in-Some-clause-kept
returns-in-Some-clause-kept g c =
    let Has = g.D.Domain.holds c.args.at.now in
    let shape = g.D.Domain.shape_of c.args.state.now in
    let parts = c.args.between.now.parts.now in
    let form = c.args.it.now.form in
    on_ok_map c.put_value.result
    (Crosses g.D.Domain.holds shape parts c.args.state.now c.put_value.new.state (λ was p. Has was × IsGiven Has form was (part_value was p (part_at parts c.in-Some.place))))
    (Crosses g.D.Domain.holds shape parts c.args.state.now c.put_value.new.state (λ was p. Has was × IsGiven Has form was (p.values c.args.it.now.parameter)))
    (λ k. crosses_more g.D.Domain.holds shape parts c.args.state.now c.put_value.new.state _ _
    (λ was p h. (h.0, subst (λ (z : ℤ). IsGiven Has form was z) (sym (ap (part_value was p) c.in-Some.ensures.1)) h.1)) k)
    c.put_value.ensures.kept
