use Rattle.std.proofs.Common.{◌≡◌, ℕ, List, [], drop, take}
use Rattle.wm_spec.specs.Lists.{all_new}
use Rattle.wm_spec.specs.Seen.{HasTexts}
use Rattle.wm_spec.proofs.lists.set_of.Given as goal

-- the set has the names so far, and those that are left decide
abbrev pub invariant-loop-name : goal.invariant-loop-name
invariant-loop-name l =
    HasTexts l.set (take l.name-index l.names) × (all_new (take l.name-index l.names) (drop l.name-index l.names) ≡ all_new [] l.names)
