use Rattle.wm_paced.proofs.Pacings.{value_word, tied_of}
use Rattle.wm_paced.proofs.paces.narrowed.Goals as goal

pub returns-in_ok-state-in-None-clause-sound : goal.returns-in_ok-state-in-None-clause-sound
returns-in_ok-state-in-None-clause-sound g c = record { kept = λ p i h. absurd (c.in-None.ensures.exact p h.point) }

pub returns-in_ok-state-in-Some-clause-sound : goal.returns-in_ok-state-in-Some-clause-sound
returns-in_ok-state-in-Some-clause-sound g c = record {
  kept = λ p i h.
      c.in_ok-state-in-Some.ensures.sound.kept p i
      (record { point = h.point; above = h.above c.in-Some.r.low c.in-Some.ensures.exact.low_is; below = λ lt. h.below c.in-Some.r.high c.in-Some.ensures.exact.high_is lt });
}

pub with_range-requires-clause-low_above : goal.with_range-requires-clause-low_above
with_range-requires-clause-low_above g c = (value_word (g.D.Domain.holds c.args.at.now) (g.D.Domain.shape_of c.args.at.now) c.args.pace.counter c.in-Some.r.low c.requires.shaped (λ q h. g.met.D.Domain.inside c.args.at.now q h) c.requires.counter c.in-Some.ensures.exact.low_is.attained).above

pub with_range-requires-clause-low_below : goal.with_range-requires-clause-low_below
with_range-requires-clause-low_below g c = (value_word (g.D.Domain.holds c.args.at.now) (g.D.Domain.shape_of c.args.at.now) c.args.pace.counter c.in-Some.r.low c.requires.shaped (λ q h. g.met.D.Domain.inside c.args.at.now q h) c.requires.counter c.in-Some.ensures.exact.low_is.attained).below

pub with_range-requires-clause-high_above : goal.with_range-requires-clause-high_above
with_range-requires-clause-high_above g c = (value_word (g.D.Domain.holds c.args.at.now) (g.D.Domain.shape_of c.args.at.now) c.args.pace.counter c.in-Some.r.high c.requires.shaped (λ q h. g.met.D.Domain.inside c.args.at.now q h) c.requires.counter c.in-Some.ensures.exact.high_is.attained).above

pub with_range-requires-clause-high_below : goal.with_range-requires-clause-high_below
with_range-requires-clause-high_below g c = (value_word (g.D.Domain.holds c.args.at.now) (g.D.Domain.shape_of c.args.at.now) c.args.pace.counter c.in-Some.r.high c.requires.shaped (λ q h. g.met.D.Domain.inside c.args.at.now q h) c.requires.counter c.in-Some.ensures.exact.high_is.attained).below

pub returns-in_ok-state-in-None-clause-made : goal.returns-in_ok-state-in-None-clause-made
returns-in_ok-state-in-None-clause-made g c = λ p h. absurd (c.in-None.ensures.exact p ((c.in_ok-state-in-None.ensures.same p).0 h))

pub returns-in_ok-state-in-Some-clause-made : goal.returns-in_ok-state-in-Some-clause-made
returns-in_ok-state-in-Some-clause-made g c = λ p h.
    tied_of (g.D.Domain.holds c.args.at.now) c.args.pace.counter c.args.pace.variable c.args.pace.loop_step c.args.pace.step c.in-Some.r p c.in-Some.ensures.exact (c.in_ok-state-in-Some.ensures.made p h)
