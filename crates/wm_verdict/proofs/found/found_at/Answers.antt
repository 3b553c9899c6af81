use Rattle.std.proofs.Common.{ap, ◌∙◌, length, ◌∷◌, [], ◌+◌, length-append}
use Rattle.std.specs.Prelude.{slice_get}
use Rattle.wm_verdict.proofs.Showing.{found_push}
use Rattle.wm_verdict.proofs.found.found_at.Goals as goal

pub loop-edge-preserved : goal.loop-edge-preserved
loop-edge-preserved g c = record {
  count = ap length c.in_ok-push.ensures.items ∙ length-append c.loop-edge.found.items (c.in_ok-found_by.field-0 ∷ []) ∙ ap (λ n. n + 1) c.loop-edge.invariant.count;
  are = λ labels e. found_push g.D.Domain.holds c.args.program.now c.args.graph.now labels c.args.edges.now c.loop-edge.found.items c.push.new.self.items c.loop-edge.edge-index c.edge-item.result c.in_ok-found_by.field-0 c.args.label.now
      c.loop-edge-test.true c.edge-item.is c.in_ok-push.ensures.items (c.loop-edge.invariant.are labels e) (ap (slice_get labels) c.if-edge-node.false ∙ e) c.in_ok-found_by.ensures;
}
