-- The views so far and those of the members that are left are all.
use Rattle.std.proofs.Common.{◌≡◌, drop}
use Rattle.wm_members.specs.Expressions.{member_argument, plain_named}
use Rattle.wm_members.specs.Making.{all_behind}
use Rattle.wm_members.proofs.spot.hand_on.Given as goal

abbrev pub invariant-loop-member : goal.invariant-loop-member
invariant-loop-member l =
    all_behind (member_argument l.at (plain_named l.named)) l.done (drop l.member-index l.members)
    ≡ all_behind (member_argument l.at (plain_named l.named)) l.fn.done l.members
