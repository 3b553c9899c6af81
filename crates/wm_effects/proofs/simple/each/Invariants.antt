use Rattle.std.proofs.Common.{◌≡◌, drop, map}
use Rattle.wm_program.specs.Trees.{effect_of}
use Rattle.wm_places.specs.Seen.{plan_of}
use Rattle.wm_effects.specs.Draws.{acting_each}
use Rattle.wm_effects.proofs.simple.each.Given as goal

abbrev pub invariant-loop-e : goal.invariant-loop-e
invariant-loop-e l =
    acting_each (plan_of l.plan) l.scene (map effect_of (drop l.e-index l.e-items)) l.pen
    ≡ acting_each (plan_of l.plan) l.scene (map effect_of l.list) l.initial.pen
