-- An operator on its arguments, as plain data.
use Rattle.std.specs.Prelude.{ℕ, Option, Some, None}
use Rattle.wm_ops.specs.declared.operators.Op.{Op}
use Rattle.wm_program.specs.Tree.{Expression, Arguments, Constant, Named, Element, Operator, Invoke, Plain, Negate, Plus, Cast}
use Rattle.wm_program.specs.UsedParts.{operands_of}
use Rattle.wm_applied.specs.declared.operators.Applied.{Applied}

pub record Application : Type 0 where
  pub op : Op
  pub arguments : Arguments
  pub site : ℕ

-- the operator that an expression is
abbrev pub operator_in : Expression → Option Application
operator_in (Constant z) = None
operator_in (Named scalar) = None
operator_in (Element array index site) = None
operator_in (Operator op args site) = Some (record { op = op; arguments = args; site = site })
operator_in (Invoke function offset args) = None
operator_in (Plain mark x y site) = None
operator_in (Negate x site) = None
operator_in (Plus x) = None
operator_in (Cast width x) = None

abbrev pub seen : Applied → Application
seen applied = record { op = applied.op; arguments = operands_of applied.arguments.now; site = applied.site }

abbrev pub applied_in : Option Applied → Option Application
applied_in None = None
applied_in (Some applied) = Some (seen applied)
