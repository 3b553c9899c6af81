use Rattle.std.proofs.Common.{◌≡◌, ℕ, ◌<◌}
use Rattle.wm_middle.specs.Parting.{part_at}
use Rattle.wm_middle.proofs.parts.find_among.Given as goal

abbrev pub invariant-loop-k : goal.invariant-loop-k
invariant-loop-k l = (j : ℕ) → j < l.k → part_at l.parts j ≡ l.part → ⊥
