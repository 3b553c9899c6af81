use Rattle.std.proofs.Common.{◌≡◌}
use Rattle.wm_verdict.specs.Sites.{no_entries}
use Rattle.wm_verdict.proofs.judge.no_entries.Given as goal

abbrev pub invariant-loop-site : goal.invariant-loop-site
invariant-loop-site l = l.entries.items ≡ no_entries l._site-index
