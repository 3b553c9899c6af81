-- The laws.
use Rattle.wm_laying.proofs.Adding.{stays}
use Rattle.wm_laying.proofs.Laying.{sizes_told, offsets_told, begins}
use Rattle.wm_laying.proofs.Roots.{instances_of, roots_stay, root_begins}
use Rattle.wm_laying.proofs.laws.laying_laws.Goals as goal

pub returns : goal.returns
returns c = record {
  stay = stays;
  sizes = sizes_told;
  offsets = offsets_told;
  begin = begins;
  functions = instances_of;
  roots = roots_stay;
  root = root_begins;
}
