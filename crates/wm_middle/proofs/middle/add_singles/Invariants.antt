use Rattle.std.proofs.Common.{◌≡◌, ℕ, ◌≤◌, length, Some, None}
use Rattle.std.specs.Prelude.{slice_index_or}
use Rattle.wm_domain.specs.Changes.{ArePicks}
use Rattle.wm_middle.specs.declared.parts.Part.TheVariants.{Caller}
use Rattle.wm_middle.specs.Parting.{AreParts, IsApart}
use Rattle.wm_middle.proofs.middle.add_singles.Given as goal

abbrev pub invariant-loop-k : goal.invariant-loop-k
invariant-loop-k l = record {
  more : length l.fn.parts.items ≤ length l.parts.items;
  inside : l.count ≤ length l.parts.items;
  few : length l.parts.items ≤ l.most;
  apart : (n i w : ℕ) → ArePicks n l.picks → l.k ≤ i → slice_index_or l.picks i None ≡ Some w → IsApart l.count l.parts.items (Caller w);
  good : (n m : ℕ) → ArePicks n l.picks → AreParts n m l.most l.fn.parts.items → AreParts n m l.most l.parts.items;
}
