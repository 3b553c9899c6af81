use Rattle.wm_operated.proofs.Adding.{no_pair, in_clamps, part_of}
use Rattle.wm_operated.proofs.sums.with_sum.Goals as goal

pub returns-in-None : goal.returns-in-None
returns-in-None g c = record { exact = λ was h z. (λ i. (i, no_pair (g.D.Domain.holds c.args.at.now) c.args.op c.args.args.now z c.in-None.ensures), λ k. k.0) }

pub returns-in-None-form : goal.returns-in-None-form
returns-in-None-form g c = record { exact = λ was h z. absurd (c.in-None-form.ensures.exact was h) }

pub returns : goal.returns
returns g c =
    let Has = g.D.Domain.holds c.args.at.now in
    record {
      exact = λ was h z.
          part_of Has c.args.op c.args.args.now c.args.range c.clamped.result c.meet.result
          (in_clamps Has c.args.op c.args.args.now c.in-Some.pair c.in_ok-form-in-Some.form c.result_width.result c.in-Some-form.sums c.clamped.result c.in-Some.ensures c.in_ok-form-in-Some.ensures c.in-Some-form.ensures.exact c.result_width.ensures.width c.clamped.ensures.low c.clamped.ensures.high)
          c.meet.ensures.common c.meet.ensures.each z;
    }
