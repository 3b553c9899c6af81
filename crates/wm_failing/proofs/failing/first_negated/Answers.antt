use Rattle.std.proofs.Common.{ℤ, neg_ℤ}
use Rattle.wm_ops.specs.Clamping.{leaves32}
use Rattle.wm_ops.specs.Outcomes.{fails_of}
use Rattle.wm_ops.specs.declared.operators.Op.TheVariants.{LNegate}
use Rattle.wm_hull.specs.Boxes.{zero_box}
use Rattle.wm_failing.proofs.Same.{first_same, worst_first, negates}
use Rattle.wm_failing.proofs.failing.first_negated.Goals as goal

pub returns : goal.returns
returns c = first_same (fails_of LNegate) (λ (a b c : ℤ). leaves32 (neg_ℤ a)) negates c.args.x zero_box zero_box c.worst.result (worst_first LNegate c.args.x zero_box zero_box c.worst.result c.worst.ensures.first)
