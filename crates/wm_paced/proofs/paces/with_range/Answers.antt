use Rattle.wm_paced.proofs.paces.with_range.Goals as goal

pub returns-clause-sound : goal.returns-clause-sound
returns-clause-sound g c = record {
  kept = λ p i h. c.in_ok-keep_paced.ensures.sound.kept p i (record { point = (c.in_ok-state.ensures.same p).1 h.point; above = h.above; below = h.below });
}

pub returns-clause-made : goal.returns-clause-made
returns-clause-made g c = λ p h. let k = c.in_ok-keep_paced.ensures.made p h in record { point = (c.in_ok-state.ensures.same p).0 k.point; above = k.above; below = k.below }
