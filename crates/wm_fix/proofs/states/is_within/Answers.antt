use Rattle.std.proofs.Common.{◌∙◌, sym}
use Rattle.wm_fix.proofs.states.is_within.Goals as goal

pub within-requires : goal.within-requires
within-requires g c = record {
  shape = c.requires.states.each c.args.number c.in-Some._head.now c.in-Some-state_at.state.now c.in-Some.ensures c.in-Some-state_at.ensures
      ∙ sym (c.requires.others.each c.args.number c.in-Some._head.now c.in-Some-state_at-2.other.now c.in-Some.ensures c.in-Some-state_at-2.ensures);
}
