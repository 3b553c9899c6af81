use Rattle.std.proofs.Common.{◌≡◌, ◌++◌, drop}
use Rattle.wm_cert_write.specs.Printed.{tighter}
use Rattle.wm_cert_write.proofs.printed.tighter.Given as goal

abbrev pub invariant-loop-pair : goal.invariant-loop-pair
invariant-loop-pair l = l.list ++ tighter l.bounds (drop l.pair-index l.pairs) ≡ tighter l.bounds l.pairs
