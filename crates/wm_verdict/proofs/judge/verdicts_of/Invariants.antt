use Rattle.std.proofs.Common.{◌≡◌, ◌++◌, drop}
use Rattle.wm_verdict.specs.Sites.{verdicts_of}
use Rattle.wm_verdict.proofs.judge.verdicts_of.Given as goal

-- what is left
abbrev pub invariant-loop-entry : goal.invariant-loop-entry
invariant-loop-entry l = l.verdicts ++ verdicts_of (drop l.entry-index l.entries) ≡ verdicts_of l.entries
