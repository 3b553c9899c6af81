-- What is known so far and what is left to look at give all.
use Rattle.std.proofs.Common.{◌≡◌, drop}
use Rattle.wm_struct.specs.Names.{declared_items}
use Rattle.wm_struct.proofs.names.declare_items.Given as goal

abbrev pub invariant-loop-item : goal.invariant-loop-item
invariant-loop-item l =
    declared_items (drop l.item-index l.items) l.state
    ≡ declared_items l.items l.fn.state
