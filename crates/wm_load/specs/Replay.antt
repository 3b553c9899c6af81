-- What a replay is given: what the specification says, the weights, the program, and the numbers of each frame.
use Rattle.std.specs.Prelude.{ℕ, ℤ, List, Option}
use Rattle.wm_program.specs.declared.program.Program.{Program}
use Rattle.wm_program.specs.Settings.{Settings, settings_of}
use Rattle.wm_samples.specs.Seen.{values_of}
use Rattle.wm_load.specs.declared.replay.Replay.{Replay as Given}

pub record Replay : Type 0 where
  pub settings : Settings
  pub weights : List (Option ℕ)
  pub program : Program
  pub frames : List (List ℤ)

abbrev pub replay_of : Given → Replay
replay_of replay = record { settings = settings_of replay.spec; weights = replay.weights; program = replay.program; frames = values_of replay.frames }
