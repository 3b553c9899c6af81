use Rattle.std.proofs.Common.{◌∙◌}
use Rattle.wm_images.specs.Nodes.{node_shape}
use Rattle.wm_labels.proofs.Noting.{noted_more}
use Rattle.wm_labels.proofs.Reaching.{start_on, edges_on, edges_all}
use Rattle.wm_labels.proofs.label.reached.Goals as goal

pub loop-number-preserved : goal.loop-number-preserved
loop-number-preserved g c =
    let before = c.loop-number.invariant in
    let now = c.in_ok-next.ensures in
    let shape = node_shape c.args.graph.now c.args.node in
    record {
      same = c.receive.ensures.same ∙ before.same;
      noted = noted_more g.M.Images.allowed g.D.Domain.holds g.D.Domain.shape_of c.args.graph.now c.args.kept.now.1 c.args.live.now c.loop-number.live c.receive.new.live before.noted now.noted;
      shape = now.shape;
      start = λ z. start_on g.M.Images.allowed g.D.Domain.holds g.D.Domain.shape_of c.loop-number.state c.in_ok-next.next (g.M.Images.started c.args.program.now c.args.graph.now) shape before.shape now.shape now.before (before.start z);
      edges = edges_on g.M.Images.allowed g.D.Domain.holds g.D.Domain.shape_of c.args.graph.now c.args.kept.now.1 c.args.into.now c.loop-number.number-index 0 c.loop-number.state c.in_ok-next.next shape c.loop-number-test.true before.shape now.shape now.before before.edges now.sound;
    }

pub returns-in-Some-clause-edges : goal.returns-in-Some-clause-edges
returns-in-Some-clause-edges g c =
    edges_all g.M.Images.allowed g.D.Domain.holds g.D.Domain.shape_of c.args.graph.now c.args.kept.now.1 c.args.into.now c.loop-number.number-index c.loop-number.state c.in-Some.state c.in-Some.is c.loop-number-test.false c.loop-number.invariant.edges
