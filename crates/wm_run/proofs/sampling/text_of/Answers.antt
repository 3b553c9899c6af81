use Rattle.std.proofs.Common.{refl}
use Rattle.wm_load.specs.Replay.{replay_of}
use Rattle.wm_run.proofs.Replays.{replay_shown}
use Rattle.wm_run.proofs.sampling.text_of.Goals as goal

pub returns : goal.returns
returns c =
    replay_shown (replay_of c.args.given.now) c.args.given.now.frames.items c.as_slice-frames.result.now c.in_ok-results.results.start c.in_ok-results.results.frames.items c.as_slice-shown.result.now
    c.replay_text.result refl c.as_slice-frames.ensures.value c.as_slice-shown.ensures.value c.in_ok-results.ensures.results c.replay_text.ensures.text
