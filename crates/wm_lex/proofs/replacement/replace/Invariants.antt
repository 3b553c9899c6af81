-- The lists that are open make of the tokens and the room so far what the whole list makes.
use Rattle.std.proofs.Common.{◌≡◌, ◌+◌, ◌*◌, length}
use Rattle.wm_lex.specs.Replacing.{replaced}
use Rattle.wm_lex.proofs.Expansion.{pending}
use Rattle.wm_lex.proofs.replacement.replace.Given as goal

abbrev pub invariant-lists : goal.invariant-lists
invariant-lists l = replaced l.definitions l.place l.room l.tokens.items (pending l.open.items) ≡ replaced l.fn.definitions l.fn.place l.fn.room l.fn.tokens.items l.fn.list

abbrev pub decreases-lists : goal.decreases-lists
decreases-lists l = 2 * l.room + length l.open.items
