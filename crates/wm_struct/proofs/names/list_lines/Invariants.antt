-- What is known so far and what is left to look at give all.
use Rattle.std.proofs.Common.{◌≡◌, drop}
use Rattle.wm_struct.specs.Names.{lines_listed}
use Rattle.wm_struct.proofs.names.list_lines.Given as goal

abbrev pub invariant-loop-line : goal.invariant-loop-line
invariant-loop-line l =
    lines_listed (drop l.line-index l.line-items) l.listing l.state
    ≡ lines_listed l.lines l.fn.listing l.fn.state
