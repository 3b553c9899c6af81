-- The text of a replay: for init, where there is one, and for each frame that was run, its failures and how it ended.
use Rattle.std.specs.Prelude.{ℕ, ◌+◌, List, [], ◌∷◌, ◌++◌, Option, Some, None, codes, decimal}
use Rattle.std.specs.Fmt.{signed_decimal}
use Rattle.wm_program.specs.declared.results.Cause.{Cause}
use Rattle.wm_program.specs.declared.results.End.{End}
use Rattle.wm_program.specs.declared.results.End.TheVariants.{Ended, Stopped, StepLimit}
use Rattle.wm_program.specs.declared.results.Event.{Event}
use Rattle.wm_program.specs.declared.results.FrameResult.{FrameResult}
use Rattle.wm_report.specs.declared.replay.Part.{Part}
use Rattle.wm_report.specs.declared.replay.Part.TheVariants.{Init, Frame}
use Rattle.wm_report.specs.Words.{cause_word}

-- whose line it is
abbrev pub part_words : Part → List ℕ
part_words Init = codes "init"
part_words (Frame k) = codes "frame " ++ decimal k

-- a site, which counts from 1 in a text, and a cause
unfoldable pub site_words : ℕ → Cause → List ℕ
site_words site cause = codes "site " ++ decimal (site + 1) ++ codes " " ++ cause_word cause

unfoldable pub event_line : Part → Event → List ℕ
event_line part event =
    part_words part ++ codes " " ++ site_words event.site event.cause ++ codes " " ++ decimal event.times ++ codes "\n"

abbrev pub end_words : End → List ℕ
end_words Ended = codes "ended"
end_words (Stopped site cause) = codes "stopped " ++ site_words site cause
end_words StepLimit = codes "steps"

unfoldable pub end_line : Part → FrameResult → List ℕ
end_line part found =
    part_words part ++ codes " count " ++ decimal found.count ++ codes " overflow " ++ signed_decimal found.overflow
    ++ codes " " ++ end_words found.end ++ codes "\n"

abbrev pub event_lines : Part → List Event → List ℕ
event_lines part [] = []
event_lines part (event ∷ events) = event_line part event ++ event_lines part events

unfoldable pub result_lines : Part → FrameResult → List ℕ
result_lines part found = event_lines part found.events ++ end_line part found

-- the lines of frames, the first of which has the number k
abbrev pub frame_lines : ℕ → List FrameResult → List ℕ
frame_lines k [] = []
frame_lines k (found ∷ frames) = result_lines (Frame k) found ++ frame_lines (k + 1) frames

-- what init did is told where there is an init
abbrev pub init_lines : Option ℕ → FrameResult → List ℕ
init_lines None start = []
init_lines (Some instance) start = result_lines Init start

unfoldable pub replay_text : Option ℕ → FrameResult → List FrameResult → List ℕ
replay_text init start frames = codes "wmops replay 1\n" ++ init_lines init start ++ frame_lines 1 frames
