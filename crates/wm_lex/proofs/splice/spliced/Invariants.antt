-- What is left so far, and what the rest of the text leaves from the cursor on.
use Rattle.std.proofs.Common.{◌≡◌, ◌+◌, ◌++◌, ◌≤◌, drop}
use Rattle.wm_lex.specs.Splices.{spliced_from, spliced}
use Rattle.wm_lex.proofs.splice.spliced.Given as goal

abbrev pub invariant-loop-index : goal.invariant-loop-index
invariant-loop-index l = record {
  left : l.left.items ++ spliced_from l.cursor (drop l.index l.text) ≡ spliced l.text;
  line : l.cursor.line ≤ l.index + 1;
  column : l.cursor.column ≤ l.index + 1;
}
