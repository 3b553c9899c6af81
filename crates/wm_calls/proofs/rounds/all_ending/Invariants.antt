use Rattle.std.proofs.Common.{◌≡◌, ◌-◌, length, []}
use Rattle.wm_calls.specs.Repeated.{repeated}
use Rattle.wm_calls.specs.Rounds.{ends_round}
use Rattle.wm_calls.proofs.rounds.all_ending.Given as goal

abbrev pub invariant-loop-round : goal.invariant-loop-round
invariant-loop-round l = repeated (length l.calls - l.round) (ends_round l.calls) l.marks.items ≡ repeated (length l.calls) (ends_round l.calls) []
