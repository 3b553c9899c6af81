use Rattle.wm_walk.proofs.Into.{leads}
use Rattle.wm_walk.proofs.Shaped.{is_shape}
use Rattle.wm_walk.proofs.Made.{made_of_head}
use Rattle.wm_walk.proofs.labelling.label_of.Goals as goal

pub reached-requires-clause-leads : goal.reached-requires-clause-leads
reached-requires-clause-leads g c = leads g.M.Images.drawn c.args.graph.now c.args.node c.args.into.now c.requires.drawn c.requires.into

pub reached-requires-clause-shape : goal.reached-requires-clause-shape
reached-requires-clause-shape g c = is_shape c.args.graph.now c.args.node c.requires.shapes

pub returns-in-Some-clause-made : goal.returns-in-Some-clause-made
returns-in-Some-clause-made g c =
    made_of_head g.M.Images.allowed g.M.Images.started g.D.Domain.holds g.D.Domain.shape_of c.args.program.now c.args.graph.now c.args.states.now c.args.kept.now.1 c.args.node c.in-Some.number c.args.head c.requires.head c.in-Some.is c.copied.result c.copied.ensures.shape c.copied.ensures.same
