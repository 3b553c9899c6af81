use Rattle.std.proofs.Common.{ℕ, ◌≤◌, length, All}
use Rattle.wm_middle.specs.Parting.{AreParts, IsArgument}
use Rattle.wm_middle.proofs.middle.add_all_followed.Given as goal

abbrev pub invariant-loop-k : goal.invariant-loop-k
invariant-loop-k l = record {
  few : length l.parts.items ≤ 32;
  good : (n m : ℕ) → All (IsArgument n m) l.arguments → AreParts n m 32 l.fn.parts.items → AreParts n m 32 l.parts.items;
}
