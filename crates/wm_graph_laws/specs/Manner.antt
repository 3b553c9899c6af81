-- What an edge is to the loops: it enters one, goes back to its head, or goes on.
use Rattle.wm_flow.specs.Plain.{Doing, AssignForm, Plain, Cast, AssignRange, SetArray, Operate, Read, Write, Clear, Keep, Test, Count, Enter, Leave, Reset, Turn, Tie, Inputs}

pub data Manner : Type 0 where
  Into : Manner
  Back : Manner
  Onward : Manner

unfoldable pub manner : Doing → Manner
manner (AssignForm target form) = Onward
manner (Plain mark args target) = Onward
manner (Cast form target) = Onward
manner (AssignRange target range) = Onward
manner (SetArray array summary) = Onward
manner (Operate op args target overflow) = Onward
manner (Read array target) = Onward
manner (Write array form length) = Onward
manner (Clear variables) = Onward
manner (Keep form relation) = Onward
manner (Test args form low high how) = Onward
manner (Count word) = Onward
manner (Enter picks arrays arguments) = Onward
manner (Leave call from_call from_exit arrays result) = Onward
manner (Reset counters) = Into
manner (Turn growths) = Back
manner (Tie counter loop_step variable step) = Onward
manner (Inputs scalars arrays) = Onward
