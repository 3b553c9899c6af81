use Rattle.std.proofs.Common.{◌<◌, length, rules}
use Rattle.wm_fix.proofs.Replacing.{set_as}
use Rattle.wm_fix.proofs.Raising.{shaped_at}
use Rattle.wm_fix.proofs.states.join.Goals as goal

pub returns-clause-states : goal.returns-clause-states
returns-clause-states g c =
    let inside : c.args.number < length c.args.states.now.items = search rules in
    set_as g.D.Domain.shape_of c.args.graph.now c.args.states.now.items c.args.number c.join_at.new.states.items c.in-Some._head.now inside c.in-Some.ensures.0 c.join_at.ensures.joined c.requires.states

pub returns-clause-shape : goal.returns-clause-shape
returns-clause-shape g c =
    let inside : c.args.number < length c.args.states.now.items = search rules in
    shaped_at g.D.Domain.shape_of c.args.graph.now c.join_at.new.states.items c.args.number c.args.node c.in-Some._head.now (g.D.Domain.shape_of c.args.image.now)
    (set_as g.D.Domain.shape_of c.args.graph.now c.args.states.now.items c.args.number c.join_at.new.states.items c.in-Some._head.now inside c.in-Some.ensures.0 c.join_at.ensures.joined c.requires.states)
    c.in-Some.ensures.0 c.in-Some.ensures.1 c.requires.image
