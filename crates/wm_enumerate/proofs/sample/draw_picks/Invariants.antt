use Rattle.std.proofs.Common.{◌≤◌, ◌<◌, All, IfSome, length}
use Rattle.wm_enumerate.proofs.sample.draw_picks.Given as goal

abbrev pub invariant-loop : goal.invariant-loop
invariant-loop l = record {
  next : l.next < l.variables;
  long : length l.keep.items ≤ l.counter;
  named : All (λ p. IfSome p (λ v. v < l.variables)) l.keep.items;
}
