use Rattle.std.proofs.Common.{◌≡◌, ◌≤◌, drop}
use Rattle.wm_words.specs.Stages.{spelled_after, in_range}
use Rattle.wm_words.proofs.stages.read_digits.Given as goal

-- the number so far is in range, and what is left goes on from it
abbrev pub invariant-loop-byte : goal.invariant-loop-byte
invariant-loop-byte l =
    (l.stages ≤ 500) × (in_range (spelled_after l.stages (drop l.byte-index l.word)) ≡ in_range (spelled_after 0 l.word))
