-- The text of a replay: what is told of the run of the samples.
use Rattle.std.specs.Prelude.{ℕ, List, [], ◌∷◌, Option}
use Rattle.wm_program.specs.declared.results.FrameResult.{FrameResult}
use Rattle.wm_program.specs.Code.{code_of}
use Rattle.wm_program.specs.Runs.{run_of}
use Rattle.wm_load.specs.Replay.{Replay}
use Rattle.wm_replay.specs.Replay.{frames_of, up_to_halt}
use Rattle.wm_report.specs.Replay.{replay_text}
use Rattle.wm_weights.specs.Table.{weight_of}

-- the results of the start and of each frame that is run: with an empty fill list, up to the first that has not ended
unfoldable pub results_of : Replay → List FrameResult
results_of given =
    up_to_halt (run_of (code_of given.program) (weight_of given.weights) [] given.settings.steps (frames_of given.settings.steps given.frames))

-- the text of results, the first of which is that of the start
abbrev pub results_text : Option ℕ → List FrameResult → List ℕ
results_text init [] = []
results_text init (start ∷ frames) = replay_text init start frames

unfoldable pub whole_replay : Replay → List ℕ
whole_replay given = results_text given.program.init (results_of given)
