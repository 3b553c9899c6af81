use Rattle.wm_graph_laws.proofs.Whole.{graphs_are_orderly}
use Rattle.wm_graph_laws.proofs.WholeHeads.{graphs_are_headed}
use Rattle.wm_graph_laws.proofs.Formed.{calls_stand}
use Rattle.wm_heads.proofs.Standing.{formed_heads_stand}
use Rattle.wm_laid.proofs.Placed.{laid_out}
use Rattle.wm_laid.proofs.laws.laid_laws.Goals as goal

pub returns : goal.returns
returns c =
    record {
      headed = laid_out;
      formed = λ code sums graph formed stand same. laid_out graph (rw same (graphs_are_orderly code sums (calls_stand code formed))) (rw same (graphs_are_headed code sums (calls_stand code formed) (formed_heads_stand code sums formed stand)));
    }
