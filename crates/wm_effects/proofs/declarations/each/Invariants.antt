use Rattle.std.proofs.Common.{◌≡◌, drop, map}
use Rattle.wm_program.specs.Trees.{fresh_of}
use Rattle.wm_places.specs.Seen.{plan_of}
use Rattle.wm_effects.specs.Draws.{making_each}
use Rattle.wm_effects.proofs.declarations.each.Given as goal

abbrev pub invariant-loop-one : goal.invariant-loop-one
invariant-loop-one l =
    making_each (plan_of l.plan) l.scene (map fresh_of (drop l.one-index l.one-items)) l.pen
    ≡ making_each (plan_of l.plan) l.scene (map fresh_of l.list) l.initial.pen
