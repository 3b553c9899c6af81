-- The text of a replay is that of the run of what was read.
use Rattle.std.proofs.Common.{◌≡◌, ℕ, ℤ, List, [], ◌∷◌, Result, Vec, Global, sym, ap, subst, ◌∙◌}
use Rattle.std.specs.Prelude.{IfOk}
use Rattle.wm_load.specs.Replay.{Replay as Given}
use Rattle.wm_program.specs.declared.inputs.Inputs.{Inputs}
use Rattle.wm_program.specs.declared.results.FrameResult.{FrameResult}
use Rattle.wm_program.specs.Code.{code_of}
use Rattle.wm_program.specs.Runs.{run_of}
use Rattle.wm_replay.specs.Replay.{frames_of, numbers_of, up_to_halt}
use Rattle.wm_report.specs.Replay.{replay_text}
use Rattle.wm_weights.specs.Table.{weight_of}
use Rattle.wm_run.specs.Replay.{results_of, results_text, whole_replay}

-- the text of the start and the frames is that of the results
shown_text : (given : Given) (start : FrameResult) (frames : List FrameResult) → start ∷ frames ≡ results_of given → replay_text given.program.init start frames ≡ whole_replay given
unfolding whole_replay
shown_text given start frames same = ap (results_text given.program.init) same

pub replay_shown : {E : Type 0} (given : Given) (inputs ran : List Inputs) (start : FrameResult) (found frames : List FrameResult) (r : Result (Vec ℕ Global) E)
    → given.frames ≡ numbers_of inputs → ran ≡ inputs → frames ≡ found
    → start ∷ found ≡ up_to_halt (run_of (code_of given.program) (weight_of given.weights) [] given.settings.steps (frames_of given.settings.steps (numbers_of ran)))
    → IfOk r (λ text. text.items ≡ replay_text given.program.init start frames) → IfOk r (λ text. text.items ≡ whole_replay given)
unfolding results_of
replay_shown given inputs ran start found frames r numbers same shown results text =
    let here : start ∷ found ≡ results_of given =
    results ∙ ap (λ (values : List (List ℤ)). up_to_halt (run_of (code_of given.program) (weight_of given.weights) [] given.settings.steps (frames_of given.settings.steps values)))
    (ap numbers_of same ∙ sym numbers) in
    let whole : replay_text given.program.init start frames ≡ whole_replay given = ap (replay_text given.program.init start) shown ∙ shown_text given start found here in
    subst (λ (bytes : List ℕ). IfOk r (λ text. text.items ≡ bytes)) whole text
