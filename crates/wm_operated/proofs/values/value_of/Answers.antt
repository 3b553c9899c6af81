use Rattle.std.proofs.Common.{Option, sym, subst}
use Rattle.wm_interval.specs.declared.Interval.{Interval}
use Rattle.wm_step.specs.Operating.{IsResult}
use Rattle.wm_operated.proofs.Deciding.{operated_from, operated_to}
use Rattle.wm_operated.proofs.values.value_of.Goals as goal

pub returns-in-None-part-clause-exact : goal.returns-in-None-part-clause-exact
returns-in-None-part-clause-exact g c = λ was z h hz hw. (
  λ k. absurd k,
  λ m.
      let k = operated_to (g.D.Domain.holds c.args.at.now) c.args.op c.args.args.now c.args.boxes.now c.in-Some.range was z c.requires.boxes c.in-Some.ensures.range m in
      subst (λ (o : Option Interval). IsResult o z) c.in-None-part.is ((c.in_ok-part-in-Some.ensures.exact was h z).1 (k.0, k.1)),
)

pub returns-in-Some-part-clause-exact : goal.returns-in-Some-part-clause-exact
returns-in-Some-part-clause-exact g c = λ was z h hz hw.
    let Has = g.D.Domain.holds c.args.at.now in
    let part = c.in_ok-part-in-Some.ensures.exact was h z in
    let value = c.beside.ensures.exact was z hz hw in (
      λ a. let k = value.0 a in let q = part.0 (subst (λ (o : Option Interval). IsResult o z) (sym c.in-Some-part.is) k.0) in operated_from Has c.args.op c.args.args.now c.args.boxes.now c.in-Some.range was z c.requires.boxes c.in-Some.ensures.range q.0 q.1 k.1,
      λ m. let k = operated_to Has c.args.op c.args.args.now c.args.boxes.now c.in-Some.range was z c.requires.boxes c.in-Some.ensures.range m in value.1 (subst (λ (o : Option Interval). IsResult o z) c.in-Some-part.is (part.1 (k.0, k.1)), k.2),
    )
