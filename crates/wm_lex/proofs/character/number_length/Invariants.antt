-- All characters so far pass, and those that are left decide how many pass.
use Rattle.std.proofs.Common.{◌≡◌, ◌+◌, drop}
use Rattle.wm_lex.specs.Characters.{is_number_byte, run_length}
use Rattle.wm_lex.proofs.character.number_length.Given as goal

abbrev pub invariant-loop-index : goal.invariant-loop-index
invariant-loop-index l = l.index + run_length is_number_byte (drop l.index l.characters) ≡ run_length is_number_byte l.characters
