use Rattle.std.proofs.Common.{◌≡◌, ◌++◌, drop, map}
use Rattle.wm_inputs.specs.Chooser.{call_place}
use Rattle.wm_inputs.proofs.choice.call_places.Given as goal

abbrev pub invariant-loop-function : goal.invariant-loop-function
invariant-loop-function l = l.places ++ map (call_place l.definitions) (drop l.function-index l.frames) ≡ map (call_place l.definitions) l.frames
