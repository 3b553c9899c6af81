-- The first byte, and those so far.
use Rattle.std.proofs.Common.{◌≡◌, ◌∷◌, take}
use Rattle.wm_lex.specs.Characters.{bytes_of}
use Rattle.wm_lex.proofs.character.spelled.Given as goal

abbrev pub invariant-loop-character : goal.invariant-loop-character
invariant-loop-character l = l.bytes.items ≡ l.fn.first.byte ∷ bytes_of (take l.character-index l.more)
