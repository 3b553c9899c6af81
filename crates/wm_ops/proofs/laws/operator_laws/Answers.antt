use Rattle.wm_ops.proofs.ClampLemmas.{leaves16_exact, leaves32_exact}
use Rattle.wm_ops.proofs.NormLemmas.{norm_least}
use Rattle.wm_ops.proofs.WidthLemmas.{low_half-is, rounded-is}
use Rattle.wm_ops.proofs.laws.operator_laws.Goals as goal

pub returns : goal.returns
returns c = record {
  clamped16 = leaves16_exact;
  clamped32 = leaves32_exact;
  rounded = rounded-is;
  low_half = low_half-is;
  norm = norm_least;
}
