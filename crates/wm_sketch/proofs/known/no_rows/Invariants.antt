use Rattle.std.proofs.Common.{◌≡◌, []}
use Rattle.std.specs.Prelude.{replicate}
use Rattle.wm_sketch.specs.Seen.{rows_of}
use Rattle.wm_sketch.proofs.known.no_rows.Given as goal

abbrev pub invariant-loop-k : goal.invariant-loop-k
invariant-loop-k l = rows_of l.rows.items ≡ replicate l.k []
