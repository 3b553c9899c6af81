use Rattle.wm_boxes.proofs.Least.{full_of, arrays_of}
use Rattle.wm_boxes.proofs.boxes.BoxesDomain.within.Goals as goal

pub within-requires-clause-full : goal.within-requires-clause-full
within-requires-clause-full c = full_of c.args.self.now c.args.other.now c.requires.shape

pub within-requires-clause-array_full : goal.within-requires-clause-array_full
within-requires-clause-array_full c = arrays_of c.args.self.now c.args.other.now c.requires.shape
