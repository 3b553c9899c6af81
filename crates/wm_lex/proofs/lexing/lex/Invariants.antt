-- The texts that are left make of the state what all of them make of the state at the start.
use Rattle.std.proofs.Common.{◌≡◌, drop}
use Rattle.wm_lex.specs.Lines.{progress_of, after_texts, at_start}
use Rattle.wm_lex.proofs.LineSteps.{items_of}
use Rattle.wm_lex.proofs.lexing.lex.Given as goal

abbrev pub invariant-loop-file : goal.invariant-loop-file
invariant-loop-file l = after_texts l.file (progress_of l.state) (items_of (drop l.file l.texts)) ≡ after_texts 0 at_start (items_of l.texts)
