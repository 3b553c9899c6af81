use Rattle.wm_graph_laws.proofs.Whole.{graphs_are_orderly}
use Rattle.wm_graph_laws.proofs.WholeHeads.{graphs_are_headed}
use Rattle.wm_graph_laws.proofs.Formed.{calls_stand}
use Rattle.wm_heads.proofs.Standing.{formed_heads_stand}
use Rattle.wm_heads.proofs.laws.head_laws.Goals as goal

pub returns : goal.returns
returns c =
    record {
      begun = formed_heads_stand;
      orderly = λ code sums formed. graphs_are_orderly code sums (calls_stand code formed);
      headed = λ code sums formed stand. graphs_are_headed code sums (calls_stand code formed) (formed_heads_stand code sums formed stand);
    }
