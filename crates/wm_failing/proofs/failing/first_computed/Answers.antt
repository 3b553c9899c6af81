use Rattle.std.proofs.Common.{ℤ, subst, sym}
use Rattle.wm_program.specs.declared.tree.PlainMark.{PlainMark}
use Rattle.wm_program.specs.declared.tree.PlainMark.TheVariants.{Plus, Minus}
use Rattle.wm_program.specs.Numbers.{plain_of}
use Rattle.wm_ops.specs.Clamping.{leaves32}
use Rattle.wm_ops.specs.Outcomes.{fails_of}
use Rattle.wm_ops.specs.declared.operators.Op.TheVariants.{LAdd, LSub}
use Rattle.wm_hull.specs.Boxes.{zero_box}
use Rattle.wm_failing.specs.declared.trial.Trial.TheVariants.{Computes}
use Rattle.wm_failing.specs.Trials.{IsToldFirst}
use Rattle.wm_failing.proofs.Same.{first_same, worst_first, adds, subtracts}
use Rattle.wm_failing.proofs.failing.first_computed.Goals as goal

pub returns-in-Plus : goal.returns-in-Plus
returns-in-Plus c =
    subst (λ (m : PlainMark). IsToldFirst (Computes m) c.args.x c.args.y zero_box c.worst.result) (sym c.in-Plus.is)
    (first_same (fails_of LAdd) (λ (a b c : ℤ). leaves32 (plain_of Plus a b)) adds c.args.x c.args.y zero_box c.worst.result (worst_first LAdd c.args.x c.args.y zero_box c.worst.result c.worst.ensures.first))

pub returns-in-Minus : goal.returns-in-Minus
returns-in-Minus c =
    subst (λ (m : PlainMark). IsToldFirst (Computes m) c.args.x c.args.y zero_box c.worst-in-Minus.result) (sym c.in-Minus.is)
    (first_same (fails_of LSub) (λ (a b c : ℤ). leaves32 (plain_of Minus a b)) subtracts c.args.x c.args.y zero_box c.worst-in-Minus.result (worst_first LSub c.args.x c.args.y zero_box c.worst-in-Minus.result c.worst-in-Minus.ensures.first))

pub returns-in-Times : goal.returns-in-Times
returns-in-Times c =
    subst (λ (m : PlainMark). IsToldFirst (Computes m) c.args.x c.args.y zero_box c.first_product.result) (sym c.in-Times.is) c.first_product.ensures

pub returns-in-Divide : goal.returns-in-Divide
returns-in-Divide c =
    subst (λ (m : PlainMark). IsToldFirst (Computes m) c.args.x c.args.y zero_box c.first_quotient.result) (sym c.in-Divide.is) c.first_quotient.ensures
