use Rattle.std.proofs.Common.{◌≡◌, ◌-◌}
use Rattle.wm_lacking.specs.Lacking.{lacking_from}
use Rattle.wm_lacking.proofs.word.lacking.Given as goal

-- what the words that are left come to, all come to
abbrev pub invariant-loop-number : goal.invariant-loop-number
invariant-loop-number l = lacking_from l.program l.weights l.number (48 - l.number) ≡ lacking_from l.program l.weights 0 48
