use Rattle.std.proofs.Common.{◌≡◌, drop}
use Rattle.wm_flow.specs.Graphs.{number_in}
use Rattle.wm_sketch.specs.Seen.{row_of}
use Rattle.wm_sketch.proofs.known.number_in.Given as goal

abbrev pub invariant-loop-it : goal.invariant-loop-it
invariant-loop-it l = number_in l.temporaries (row_of (drop l.it-index l.row)) ≡ number_in l.temporaries (row_of l.row)
