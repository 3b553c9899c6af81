use Rattle.wm_graph_laws.proofs.Whole.{graphs_are_orderly}
use Rattle.wm_graph_laws.proofs.Formed.{calls_stand}
use Rattle.wm_graph_laws.proofs.WholeHeads.{graphs_are_headed}
use Rattle.wm_graph_laws.proofs.laws.graph_laws.Goals as goal

pub returns : goal.returns
returns c = record { orderly = graphs_are_orderly; headed = graphs_are_headed; calls = calls_stand }
