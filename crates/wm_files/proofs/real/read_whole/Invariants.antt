use Rattle.std.proofs.Common.{◌-◌, ◌+◌, length}
use Rattle.std.specs.Io.KnownBytes.{Consumes}
use Rattle.wm_files.proofs.real.read_whole.Given as goal

-- what was read so far is what the source had
abbrev pub invariant-loop-piece : goal.invariant-loop-piece
invariant-loop-piece g l = Consumes (g.S.Read.remaining l.fn.source) (g.S.Read.remaining l.source) l.bytes.items

-- each turn takes a byte, up to one past the limit
abbrev pub decreases-loop-piece : goal.decreases-loop-piece
decreases-loop-piece g l = l.limit + 1 - length l.bytes.items
