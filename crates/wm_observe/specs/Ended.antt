-- Frames that have ended.
use Rattle.std.specs.Prelude.{Bool, true, false}
use Rattle.wm_program.specs.declared.results.End.{End}
use Rattle.wm_program.specs.declared.results.End.TheVariants.{Ended, Stopped, StepLimit}

-- neither a stop nor the limit of steps
abbrev pub is_ended : End → Bool
is_ended Ended = true
is_ended (Stopped site cause) = false
is_ended StepLimit = false
