use Rattle.wm_operated.proofs.Deciding.{differs_by}
use Rattle.wm_operated.proofs.values.near.Goals as goal

pub returns-in-Some-differences-clause-exact : goal.returns-in-Some-differences-clause-exact
returns-in-Some-differences-clause-exact c = λ was z hz hx.
    let x = was.values c.args.from in
    let part = c.in-Some-differences.ensures.exact z x hz hx in
    let rule = differs_by c.args.op c.args.boxes.now c.in-Some.d x z c.in-Some.ensures.exact in
    (λ h. (h.0, rule.0 (part.0 h.1)), λ k. (k.0, part.1 (rule.1 k.1)))
