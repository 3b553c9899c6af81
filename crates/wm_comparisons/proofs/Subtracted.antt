-- Which operators are subtractions.
use Rattle.std.proofs.Common.{◌≡◌, ℕ, refl}
use Rattle.wm_ops.specs.declared.operators.Op.{Op}
use Rattle.wm_ops.specs.declared.operators.Op.TheVariants as ops
use Rattle.wm_program.specs.Tree.{Expression, Arguments, Constant, Named, Element, Operator, Invoke, Plain, Negate, Plus, Cast}
use Rattle.wm_flow.specs.Tests.{subtraction}
use Rattle.wm_applied.specs.Applications.{operator_in}
use Rattle.wm_comparisons.specs.Seen.{subtraction_among}

of_operator : (op : Op) (args : Arguments) (site : ℕ) → subtraction_among (operator_in (Operator op args site)) ≡ subtraction (Operator op args site)
of_operator ops.Add args site = refl
of_operator ops.Sub args site = refl
of_operator ops.AbsS args site = refl
of_operator ops.Negate args site = refl
of_operator ops.Mult args site = refl
of_operator ops.MultR args site = refl
of_operator ops.Shl args site = refl
of_operator ops.Shr args site = refl
of_operator ops.ShrR args site = refl
of_operator ops.LAdd args site = refl
of_operator ops.LSub args site = refl
of_operator ops.LAbs args site = refl
of_operator ops.LNegate args site = refl
of_operator ops.LMult args site = refl
of_operator ops.LMac args site = refl
of_operator ops.LMsu args site = refl
of_operator ops.LShl args site = refl
of_operator ops.LShr args site = refl
of_operator ops.LShrR args site = refl
of_operator ops.ExtractH args site = refl
of_operator ops.ExtractL args site = refl
of_operator ops.LDepositH args site = refl
of_operator ops.LDepositL args site = refl
of_operator ops.Round args site = refl
of_operator ops.MacR args site = refl
of_operator ops.MsuR args site = refl
of_operator ops.NormS args site = refl
of_operator ops.NormL args site = refl
of_operator ops.DivS args site = refl
of_operator ops.SMax args site = refl
of_operator ops.SMin args site = refl
of_operator ops.LMax args site = refl
of_operator ops.LMin args site = refl
of_operator ops.LMult0 args site = refl
of_operator ops.LMac0 args site = refl
of_operator ops.LMsu0 args site = refl

pub from_operator : (x : Expression) → subtraction_among (operator_in x) ≡ subtraction x
from_operator (Constant z) = refl
from_operator (Named scalar) = refl
from_operator (Element array index site) = refl
from_operator (Operator op args site) = of_operator op args site
from_operator (Invoke function offset args) = refl
from_operator (Plain mark x y site) = refl
from_operator (Negate x site) = refl
from_operator (Plus x) = refl
from_operator (Cast width x) = refl
