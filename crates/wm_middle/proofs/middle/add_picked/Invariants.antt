use Rattle.std.proofs.Common.{ℕ, ◌≤◌, length}
use Rattle.wm_domain.specs.Changes.{ArePicks}
use Rattle.wm_middle.specs.Parting.{AreParts}
use Rattle.wm_middle.proofs.middle.add_picked.Given as goal

abbrev pub invariant-loop-k : goal.invariant-loop-k
invariant-loop-k l = record {
  more : length l.fn.parts.items ≤ length l.parts.items;
  few : length l.parts.items ≤ l.most;
  good : (n m : ℕ) → ArePicks n l.picks → AreParts n m l.most l.fn.parts.items → AreParts n m l.most l.parts.items;
}
