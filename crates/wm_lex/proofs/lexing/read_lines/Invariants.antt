-- The line so far and the characters that are left make of the state what all of them make of the state at the start.
use Rattle.std.proofs.Common.{◌≡◌, ◌-◌, ◌≤◌, [], take, drop}
use Rattle.wm_lex.specs.Lines.{progress_of, after_lines}
use Rattle.wm_lex.proofs.lexing.read_lines.Given as goal

abbrev pub invariant-loop-index : goal.invariant-loop-index
invariant-loop-index l = record {
  left : after_lines l.file (progress_of l.state) (take (l.index - l.start) (drop l.start l.characters)) (drop l.index l.characters) ≡ after_lines l.file (progress_of l.fn.state) [] l.characters;
  within : l.start ≤ l.index;
}
