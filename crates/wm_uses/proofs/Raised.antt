-- An entry that was raised, and the others.
use Rattle.std.proofs.Common.{◌≡◌, ℕ, ◌<◌, List, length, get_or, arith}
use Rattle.std.proofs.lemmas.Grind.{common_steps}
use Rattle.std.proofs.lemmas.Bool.Decides.{nat_tests}
use Rattle.std.proofs.lemmas.List.{get_or-set_same, get_or-set_other}
use Rattle.wm_uses.specs.Last.{raised, reaching}

pub length_raised : (last : List ℕ) (node until : ℕ) → length (raised last node until) ≡ length last
length_raised last node until = grind (arith, common_steps)

pub raised_at : (last : List ℕ) (node until k : ℕ) → k < length last → get_or (raised last node until) k 0 ≡ reaching node until k (get_or last k 0)
raised_at last node until k h = grind (arith, nat_tests, common_steps, get_or-set_same {A = ℕ}, get_or-set_other {A = ℕ})
