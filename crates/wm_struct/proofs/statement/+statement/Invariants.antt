-- What is made so far and what is left to make are all.
use Rattle.std.proofs.Common.{◌≡◌, [], map, drop}
use Rattle.wm_members.specs.Making.{more}
use Rattle.wm_struct.specs.Statements.{item_made, item_layer}
use Rattle.wm_struct.proofs.statement.+statement.Given as goal

abbrev pub invariant-items_of-loop-item : goal.invariant-items_of-loop-item
invariant-items_of-loop-item l =
    more item_made l.done (map item_layer (drop l.item-index l.item-items)) l.state ≡ more item_made [] (map item_layer l.items) l.fn.state
