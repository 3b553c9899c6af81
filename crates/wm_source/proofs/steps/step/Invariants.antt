-- No part so far tells a step.
use Rattle.std.proofs.Common.{◌≡◌, drop}
use Rattle.wm_source.specs.Steps.{step_of}
use Rattle.wm_source.proofs.steps.step.Given as goal

abbrev pub invariant-loop-simple : goal.invariant-loop-simple
invariant-loop-simple l = step_of (drop l.simple-index l.simples) ≡ step_of l.simples
