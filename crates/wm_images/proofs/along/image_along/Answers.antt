use Rattle.std.proofs.Common.{◌≡◌, List, Some, subst, sym, ◌∙◌}
use Rattle.std.proofs.lemmas.Result.{IfOk-weaker}
use Rattle.std.specs.Prelude.{slice_get}
use Rattle.wm_flow.specs.declared.graph.Edge.{Edge}
use Rattle.wm_uses.specs.Last.{call_of}
use Rattle.wm_images.specs.Nodes.{node_shape}
use Rattle.wm_images.proofs.Holding.{shaped, some_edge, there_edge, some_call, step_receives, leave_receives}
use Rattle.wm_images.proofs.along.image_along.Goals as goal

pub step-requires-clause-shape : goal.step-requires-clause-shape
step-requires-clause-shape g c =
    let is = subst (λ (edges : List Edge). slice_get edges c.args.number ≡ Some c.in-Some.edge.now) c.items.ensures.items c.in-Some.ensures in
    some_edge (λ edge. g.D.Domain.shape_of c.in-Some-get.at.now ≡ node_shape c.args.graph.now edge.source) _ c.in-Some.edge.now is
    (shaped g.D.Domain.shape_of c.args.graph.now c.args.kept.now.1 c.in-Some.edge.now.source c.in-Some-get.at.now c.requires.shapes c.in-Some-get.ensures.state)

pub leave-requires-clause-shape : goal.leave-requires-clause-shape
leave-requires-clause-shape g c =
    let is = subst (λ (edges : List Edge). slice_get edges c.args.number ≡ Some c.in-Some.edge.now) c.items.ensures.items c.in-Some.ensures in
    some_edge (λ edge. g.D.Domain.shape_of c.in-Some-get.at.now ≡ node_shape c.args.graph.now edge.source) _ c.in-Some.edge.now is
    (shaped g.D.Domain.shape_of c.args.graph.now c.args.kept.now.1 c.in-Some.edge.now.source c.in-Some-get.at.now c.requires.shapes c.in-Some-get.ensures.state)

pub leave-requires-clause-call_shape : goal.leave-requires-clause-call_shape
leave-requires-clause-call_shape g c =
    let is = subst (λ (edges : List Edge). slice_get edges c.args.number ≡ Some c.in-Some.edge.now) c.items.ensures.items c.in-Some.ensures in
    some_edge _ _ c.in-Some.edge.now is
    (some_call _ (call_of c.in-Some.edge.now.action) c.in-Some-call_of.call (sym c.call_of.ensures ∙ c.in-Some-call_of.is)
    (shaped g.D.Domain.shape_of c.args.graph.now c.args.kept.now.1 c.in-Some-call_of.call c.in-Some-get-2.at_call.now c.requires.shapes c.in-Some-get-2.ensures.state))

pub returns-in-None-clause-shape : goal.returns-in-None-clause-shape
returns-in-None-clause-shape g c =
    let is = subst (λ (edges : List Edge). slice_get edges c.args.number ≡ Some c.in-Some.edge.now) c.items.ensures.items c.in-Some.ensures in
    IfOk-weaker c.step.result _ _ (λ s h. there_edge _ _ c.in-Some.edge.now is h) c.step.ensures.shape

pub returns-in-None-clause-sound : goal.returns-in-None-clause-sound
returns-in-None-clause-sound g c =
    let is = subst (λ (edges : List Edge). slice_get edges c.args.number ≡ Some c.in-Some.edge.now) c.items.ensures.items c.in-Some.ensures in
    IfOk-weaker c.step.result _ _ (λ s h. step_receives g.M.Images.allowed g.D.Domain.holds g.D.Domain.shape_of c.args.graph.now c.args.kept.now.1 c.args.number c.in-Some.edge.now c.in-Some-get.at.now s is c.in-Some-get.ensures.state (sym c.call_of.ensures ∙ c.in-None.is) h) c.step.ensures.sound

pub returns-in-Some-get-2-clause-shape : goal.returns-in-Some-get-2-clause-shape
returns-in-Some-get-2-clause-shape g c =
    let is = subst (λ (edges : List Edge). slice_get edges c.args.number ≡ Some c.in-Some.edge.now) c.items.ensures.items c.in-Some.ensures in
    IfOk-weaker c.leave.result _ _ (λ s h. there_edge _ _ c.in-Some.edge.now is h) c.leave.ensures.shape

pub returns-in-Some-get-2-clause-sound : goal.returns-in-Some-get-2-clause-sound
returns-in-Some-get-2-clause-sound g c =
    let is = subst (λ (edges : List Edge). slice_get edges c.args.number ≡ Some c.in-Some.edge.now) c.items.ensures.items c.in-Some.ensures in
    IfOk-weaker c.leave.result _ _ (λ s h. leave_receives g.M.Images.allowed g.D.Domain.holds g.D.Domain.shape_of c.args.graph.now c.args.kept.now.1 c.args.number c.in-Some.edge.now c.in-Some-get.at.now s is c.in-Some-get.ensures.state c.in-Some-call_of.call c.in-Some-get-2.at_call.now (sym c.call_of.ensures ∙ c.in-Some-call_of.is) c.in-Some-get-2.ensures.state h) c.leave.ensures.sound
