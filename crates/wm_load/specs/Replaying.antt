-- What a replay asks for, and what it comes to.
use Rattle.std.specs.Prelude.{ℕ, ℤ, List, Result, Ok}
use Rattle.wm_read.specs.Asking.{Asking, Done, ◌>>=◌}
use Rattle.wm_read.specs.Files.{samples_asked}
use Rattle.wm_report.specs.declared.fault.RunFault.{RunFault}
use Rattle.wm_load.specs.Loaded.{Loaded}
use Rattle.wm_load.specs.Loading.{load_asked}
use Rattle.wm_load.specs.Replay.{Replay}

abbrev pub with_frames : Loaded → List (List ℤ) → Asking (Result Replay RunFault)
with_frames loaded frames =
    Done (Ok (record { settings = loaded.settings; weights = loaded.weights; program = loaded.program; frames = frames }))

-- the samples of a program, in the file of this name
unfoldable pub replay_behind : List ℕ → Loaded → Asking (Result Replay RunFault)
replay_behind samples loaded = samples_asked loaded.program samples >>= with_frames loaded

-- the samples are read last
unfoldable pub replay_asked : List ℕ → List ℕ → Asking (Result Replay RunFault)
replay_asked name samples = load_asked name >>= replay_behind samples
