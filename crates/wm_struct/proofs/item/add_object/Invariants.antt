-- What is made so far and what is left to make are all.
use Rattle.std.proofs.Common.{◌≡◌, drop}
use Rattle.wm_struct.specs.Items.{member_object}
use Rattle.wm_members.specs.Making.{more}
use Rattle.wm_struct.proofs.item.add_object.Given as goal

abbrev pub invariant-loop-member : goal.invariant-loop-member
invariant-loop-member l =
    more (member_object l.objects l.object) l.done (drop l.member-index l.member-items) l.state
    ≡ more (member_object l.objects l.object) l.fn.done l.members l.fn.state
