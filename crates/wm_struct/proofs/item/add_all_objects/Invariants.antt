-- What is made so far and what is left to make are all.
use Rattle.std.proofs.Common.{◌≡◌, drop}
use Rattle.wm_struct.specs.Items.{object_behind}
use Rattle.wm_members.specs.Making.{behind}
use Rattle.wm_struct.proofs.item.add_all_objects.Given as goal

abbrev pub invariant-loop-object : goal.invariant-loop-object
invariant-loop-object l =
    behind (object_behind l.objects l.members) l.done (drop l.object-index l.object-items) l.state
    ≡ behind (object_behind l.objects l.members) l.fn.done l.objects.objects l.fn.state
