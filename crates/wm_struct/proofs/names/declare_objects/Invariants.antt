-- What is known so far and what is left to look at give all.
use Rattle.std.proofs.Common.{◌≡◌, drop}
use Rattle.wm_struct.specs.Names.{declared_objects}
use Rattle.wm_struct.proofs.names.declare_objects.Given as goal

abbrev pub invariant-loop-name : goal.invariant-loop-name
invariant-loop-name l =
    declared_objects l.number (drop l.name-index l.name-items) l.state
    ≡ declared_objects l.number l.names l.fn.state
