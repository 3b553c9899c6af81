use Rattle.std.proofs.Common.{◌≡◌, ◌-◌, length, []}
use Rattle.wm_calls.specs.Repeated.{repeated}
use Rattle.wm_calls.specs.Rounds.{reach_round}
use Rattle.wm_calls.proofs.rounds.all_reaching.Given as goal

abbrev pub invariant-loop-round : goal.invariant-loop-round
invariant-loop-round l = repeated (length l.calls - l.round) (reach_round l.calls l.to) l.marks.items ≡ repeated (length l.calls) (reach_round l.calls l.to) []
