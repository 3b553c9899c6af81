use Rattle.std.proofs.Common.{◌≡◌, ◌+◌, ◌++◌, drop}
use Rattle.wm_cert_text.specs.Heads.{head_texts}
use Rattle.wm_cert_text.proofs.write.push_heads.Given as goal

abbrev pub invariant-loop-k : goal.invariant-loop-k
invariant-loop-k l = l.text.items ++ head_texts (l.k + 1) (drop l.k l.heads) ≡ l.fn.text.items ++ head_texts 1 l.heads
