use Rattle.std.proofs.Common.{◌≡◌, drop, None}
use Rattle.wm_cost.specs.Endless.{endless_from}
use Rattle.wm_cost.proofs.endless.first_endless.Given as goal

abbrev pub invariant-loop-number : goal.invariant-loop-number
invariant-loop-number l = endless_from l.fn.start l.turns l.live l.number (drop l.number l.heads) l.found ≡ endless_from l.fn.start l.turns l.live 0 l.heads None
