use Rattle.wm_shaped.proofs.Whole.{formed_are_shaped}
use Rattle.wm_shaped.proofs.laws.shape_laws.Goals as goal

pub returns : goal.returns
returns c = record { shaped = formed_are_shaped }
