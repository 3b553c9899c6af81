use Rattle.std.proofs.Common.{◌≡◌}
use Rattle.wm_interval.specs.Holds.{Holds}
use Rattle.wm_domain.specs.Points.{Point}
use Rattle.wm_domain.specs.Forms.{form_value}
use Rattle.wm_filters.specs.Stays.{Stays}
use Rattle.wm_left.specs.Taking.{TakenBoth}
use Rattle.wm_left.proofs.Taken.{none_both, some_both, on_ok_map}
use Rattle.wm_left.proofs.pairs.take_pair.Goals as goal

pub returns-in-None-clause-kept : goal.returns-in-None-clause-kept
returns-in-None-clause-kept g c = record {
  kept = λ p i h t.
      absurd (none_both (g.D.Domain.holds c.args.there.now) (g.D.Domain.shape_of c.args.there.now) c.new-all.result c.in_ok-form.form c.args.first.to c.args.second.to c.args.first.from c.args.second.from c.args.negative p
      c.requires.shaped (λ q k. g.met.D.Domain.inside c.args.there.now q k) c.requires.first.1 c.requires.second.1 c.new-all.ensures.low c.new-all.ensures.high c.in_ok-form.ensures c.in-None.ensures.exact t);
}

pub returns-clause-kept : goal.returns-clause-kept
returns-clause-kept g c = on_ok_map c.take_form.result
    (Stays g.D.Domain.holds (g.D.Domain.shape_of c.args.state.now) c.args.state.now c.take_form.new.state (λ (q : Point). Holds c.in-Some.r (form_value q.values c.in_ok-here-in-Some.here)))
    (Stays g.D.Domain.holds (g.D.Domain.shape_of c.args.state.now) c.args.state.now c.take_form.new.state (TakenBoth (g.D.Domain.holds c.args.there.now) c.args.first.to c.args.second.to c.args.first.from c.args.second.from))
    (λ k. record {
      kept = λ p i h t.
          k.kept p i h (some_both (g.D.Domain.holds c.args.there.now) (g.D.Domain.shape_of c.args.there.now) c.new-all.result c.in-Some.r c.in_ok-form.form c.in_ok-here-in-Some.here c.args.first.to c.args.second.to c.args.first.from c.args.second.from c.args.negative p
          c.requires.shaped (λ q z. g.met.D.Domain.inside c.args.there.now q z) c.requires.first.1 c.requires.second.1 c.new-all.ensures.low c.new-all.ensures.high c.in_ok-form.ensures c.in_ok-here-in-Some.ensures c.in-Some.ensures.exact t);
    })
    c.take_form.ensures.kept
