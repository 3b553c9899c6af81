use Rattle.std.proofs.Common.{◌≡◌, replicate}
use Rattle.wm_accept.specs.declared.entries.Entry.TheVariants.{Unseen}
use Rattle.wm_accept.proofs.walking.unseen.Given as goal

abbrev pub invariant-loop-k : goal.invariant-loop-k
invariant-loop-k l = l.list.items ≡ replicate l.k Unseen
