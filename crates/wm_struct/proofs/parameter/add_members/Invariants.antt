-- The parameters so far and those of the members that are left are all.
use Rattle.std.proofs.Common.{◌≡◌, drop}
use Rattle.wm_members.specs.Making.{all_behind}
use Rattle.wm_struct.specs.Parameters.{member_parameter}
use Rattle.wm_struct.proofs.parameter.add_members.Given as goal

abbrev pub invariant-loop-member : goal.invariant-loop-member
invariant-loop-member l =
    all_behind (member_parameter l.parameter l.name) l.done (drop l.member-index l.members)
    ≡ all_behind (member_parameter l.parameter l.name) l.fn.done l.members
