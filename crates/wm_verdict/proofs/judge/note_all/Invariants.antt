use Rattle.std.proofs.Common.{◌≡◌, drop}
use Rattle.wm_verdict.specs.Sites.{noted_all}
use Rattle.wm_verdict.proofs.judge.note_all.Given as goal

-- what is left
abbrev pub invariant-loop-one : goal.invariant-loop-one
invariant-loop-one l = noted_all (drop l.one-index l.found) l.entries.items ≡ noted_all l.found l.initial.entries.items
