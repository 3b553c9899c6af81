use Rattle.std.proofs.Common.{◌≡◌, ◌+◌, ◌++◌, drop}
use Rattle.wm_report.specs.Replay.{frame_lines}
use Rattle.wm_report.proofs.replay.push_frames.Given as goal

-- the lines so far, and those of what is left
abbrev pub invariant-loop-k : goal.invariant-loop-k
invariant-loop-k l = l.text.items ++ frame_lines (l.k + 1) (drop l.k l.frames) ≡ l.fn.text.items ++ frame_lines 1 l.frames
