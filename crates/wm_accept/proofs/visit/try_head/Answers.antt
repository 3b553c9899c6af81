use Rattle.std.proofs.Common.{sym, subst, List}
use Rattle.wm_accept.specs.declared.entries.Entry.{Entry}
use Rattle.wm_accept.specs.Entries.{AreTried}
use Rattle.wm_accept.proofs.Trying.{tried_one}
use Rattle.wm_accept.proofs.visit.try_head.Goals as goal

pub tried-requires-clause-state : goal.tried-requires-clause-state
tried-requires-clause-state g c = c.requires.states.each c.args.number c.in-Some.head.now c.in-Some-state_at.state.now c.in-Some.ensures c.in-Some-state_at.ensures

pub returns-clause-tried : goal.returns-clause-tried
returns-clause-tried g c =
    subst (λ (es : List Entry). AreTried g.M.Images.allowed g.D.Domain.holds g.D.Domain.shape_of c.args.graph.now c.args.states.now c.args.kept.now.1 c.args.entries.now es) (sym c.set_entry.ensures)
    (tried_one g.M.Images.allowed g.D.Domain.holds g.D.Domain.shape_of c.args.graph.now c.args.states.now c.args.kept.now.1 c.args.entries.now c.args.number c.in_ok-entry.entry c.in-Some.head.now c.in-Some-state_at.state.now c.in-Some.ensures c.in-Some-state_at.ensures c.in_ok-entry.ensures.held)
