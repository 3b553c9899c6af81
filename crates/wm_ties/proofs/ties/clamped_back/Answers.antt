use Rattle.std.proofs.Common.{ℤ, ◌≤ℤ◌, pos, negsuc, subst, w64}
use Rattle.std.specs.Prelude.{◌↔◌}
use Rattle.std.proofs.lemmas.Int.{to_z-of_z}
use Rattle.wm_numbers.specs.Within.{Within}
use Rattle.wm_ties.proofs.Making.{back_above}
use Rattle.wm_ties.proofs.ties.clamped_back.Goals as goal

pub returns-clause-above : goal.returns-clause-above
returns-clause-above c = back_above c.args.z c.clamped.result c.clamped.ensures.size
    (subst (λ (k : ℤ). (y : ℤ) → Within (negsuc 4294967295) (pos 4294967296) y → (c.clamped.result ≤ℤ y) ↔ (k ≤ℤ y)) (to_z-of_z w64 c.args.z c.ranges.z) c.clamped.ensures.above)
