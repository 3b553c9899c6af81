-- The copies so far are of the members so far.
use Rattle.std.proofs.Common.{◌≡◌, ◌++◌, drop}
use Rattle.wm_members.proofs.state.copies.Given as goal

abbrev pub invariant-loop-member : goal.invariant-loop-member
invariant-loop-member l = l.copies ++ drop l.member-index l.members ≡ l.members
