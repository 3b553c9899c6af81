use Rattle.std.proofs.Common.{sym, ◌∙◌}
use Rattle.std.specs.Prelude.{slice_get}
use Rattle.wm_accept.proofs.Holding.{target_shape, receives_by}
use Rattle.wm_accept.proofs.entries.tried.Goals as goal

pub image_along-requires-clause-drawn : goal.image_along-requires-clause-drawn
image_along-requires-clause-drawn g c = c.requires.drawn.each c.args.number c.in-Some._edge.now c.in-Some.ensures.0

pub entry_of-requires-clause-image_shape : goal.entry_of-requires-clause-image_shape
entry_of-requires-clause-image_shape g c =
    target_shape c.args.graph.now c.args.node (g.D.Domain.shape_of c.in_ok-image.image) (slice_get c.args.graph.now.edges c.args.number) c.in-Some._edge.now c.in-Some.ensures.0 c.in-Some.ensures.1 c.in_ok-image.ensures.shape
    ∙ sym c.in-Some-shape_at.ensures

pub returns-clause-held : goal.returns-clause-held
returns-clause-held g c =
    receives_by g.M.Images.allowed g.D.Domain.holds g.D.Domain.shape_of c.args.graph.now c.args.kept.now.1 c.args.number c.in_ok-image.image c.args.state.now c.entry_of.result
    (c.requires.state ∙ sym (target_shape c.args.graph.now c.args.node (g.D.Domain.shape_of c.in_ok-image.image) (slice_get c.args.graph.now.edges c.args.number) c.in-Some._edge.now c.in-Some.ensures.0 c.in-Some.ensures.1 c.in_ok-image.ensures.shape))
    c.in_ok-image.ensures.sound c.entry_of.ensures.held
