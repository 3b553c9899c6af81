-- What is made so far and what is left to make are all.
use Rattle.std.proofs.Common.{◌≡◌, [], drop}
use Rattle.wm_struct.specs.Items.{item_behind}
use Rattle.wm_members.specs.Making.{behind}
use Rattle.wm_struct.proofs.item.add_items.Given as goal

abbrev pub invariant-loop-item : goal.invariant-loop-item
invariant-loop-item l =
    behind item_behind l.done (drop l.item-index l.items) l.state
    ≡ behind item_behind [] l.items l.fn.state
