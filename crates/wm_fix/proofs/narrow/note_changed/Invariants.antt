use Rattle.wm_fix.specs.Cores.{AreCores}
use Rattle.wm_fix.proofs.narrow.note_changed.Given as goal

abbrev pub invariant-loop-number : goal.invariant-loop-number
invariant-loop-number g l = record {
  cores : AreCores g.D.Domain.shape_of l.setting.apart.now.graph l.labels.cores.items;
}
