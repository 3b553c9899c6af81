use Rattle.std.proofs.Common.{◌≡◌, drop}
use Rattle.wm_cert_heads.specs.Matching.{pairs_in}
use Rattle.wm_cert_heads.proofs.matching.pairs_in.Given as goal

abbrev pub invariant-loop-pair : goal.invariant-loop-pair
invariant-loop-pair l = pairs_in l.fn.group (drop l.pair-index l.pairs) ≡ pairs_in l.fn.group l.pairs
