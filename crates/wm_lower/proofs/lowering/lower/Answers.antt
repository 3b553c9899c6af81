use Rattle.std.proofs.Common.{◌≡◌, IfOk, Result, Ok, Err}
use Rattle.wm_program.specs.Code.{code_of}
use Rattle.wm_flow.specs.declared.graph.Graph.{Graph}
use Rattle.wm_flow.specs.Views.{flow_of}
use Rattle.wm_flow.specs.Graphs.{graph_of}
use Rattle.wm_graph_laws.specs.Calling.{CallsStand}
use Rattle.wm_flow.specs.Parts.{plan_of}
use Rattle.wm_graph_laws.specs.Begun.{HeadsStand}
use Rattle.wm_graph_laws.specs.Laws.{IsOrderly, IsHeaded}
use Rattle.wm_graph_laws.proofs.Whole.{graphs_are_orderly}
use Rattle.wm_graph_laws.proofs.WholeHeads.{graphs_are_headed}
use Rattle.wm_lower.proofs.lowering.lower.Goals as goal

if_ok : {E : Type 0} (P Q : Graph → Type 0) (r : Result Graph E) → ((graph : Graph) → P graph → Q graph) → IfOk r P → IfOk r Q
if_ok P Q (Ok graph) on h = on graph h
if_ok P Q (Err e) on h = h

pub returns : goal.returns
returns c =
    let code = code_of c.args.program.now in
    let sums = c.args.sums.now in
    record {
      graph = c.drawn_graph.ensures.graph;
      orderly = if_ok (λ graph. flow_of graph ≡ graph_of code sums) (λ graph. CallsStand code → IsOrderly (flow_of graph)) _ (λ graph same stand. rw same (graphs_are_orderly code sums stand)) c.drawn_graph.ensures.graph;
      headed = if_ok (λ graph. flow_of graph ≡ graph_of code sums) (λ graph. CallsStand code → HeadsStand (plan_of code sums) → IsHeaded (flow_of graph)) _ (λ graph same stand heads. rw same (graphs_are_headed code sums stand heads)) c.drawn_graph.ensures.graph;
    }
