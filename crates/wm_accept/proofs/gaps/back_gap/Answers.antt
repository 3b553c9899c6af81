use Rattle.wm_accept.proofs.gaps.back_gap.Goals as goal

pub tried-requires-clause-state : goal.tried-requires-clause-state
tried-requires-clause-state g c = c.requires.states.each c.args.number c.in-Some.head.now c.in-Some-state_at.state.now c.in-Some.ensures c.in-Some-state_at.ensures
