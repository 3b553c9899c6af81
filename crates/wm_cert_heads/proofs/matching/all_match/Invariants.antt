use Rattle.std.proofs.Common.{◌≡◌, drop}
use Rattle.wm_cert_heads.specs.Matching.{all_match}
use Rattle.wm_cert_heads.proofs.matching.all_match.Given as goal

abbrev pub invariant-loop-number : goal.invariant-loop-number
invariant-loop-number l = all_match l.graph l.told l.number (drop l.number l.heads) ≡ all_match l.graph l.told 0 l.heads
