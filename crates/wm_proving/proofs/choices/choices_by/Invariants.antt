use Rattle.std.proofs.Common.{◌≡◌, map, take}
use Rattle.wm_proving.specs.Worst.{choice_in}
use Rattle.wm_proving.proofs.choices.choices_by.Given as goal

abbrev pub invariant-loop-part : goal.invariant-loop-part
invariant-loop-part l = l.choices.items ≡ map (choice_in l.graph l.weights l.facts) (take l.part-index l.parts)
