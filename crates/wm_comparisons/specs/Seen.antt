-- What is compared, as plain data.
use Rattle.std.specs.Prelude.{Bool, true, false, if◌then◌else◌, Option, Some, None}
use Rattle.wm_ops.specs.declared.operators.Op.{Op}
use Rattle.wm_ops.specs.declared.operators.Op.TheVariants as ops
use Rattle.wm_program.specs.declared.tree.Comparison.{Comparison}
use Rattle.wm_program.specs.declared.tree.Comparison.TheVariants.{NotEqual}
use Rattle.wm_program.specs.Trees.{expression_of}
use Rattle.wm_program.specs.UsedParts.{operands_of}
use Rattle.wm_flow.specs.Tests as tests
use Rattle.wm_applied.specs.declared.operators.Applied.{Applied}
use Rattle.wm_applied.specs.Applications.{Application}
use Rattle.wm_comparisons.specs.declared.questions.Compared.{Compared}
use Rattle.wm_comparisons.specs.declared.questions.Compared.TheVariants as compare

-- the two operators whose result, compared with 0, is a comparison of their arguments
abbrev pub is_subtraction : Op → Bool
is_subtraction ops.Sub = true
is_subtraction ops.LSub = true
is_subtraction _ = false

abbrev pub plain_subtraction : Application → tests.Subtraction
plain_subtraction it = record { op = it.op; arguments = it.arguments; site = it.site }

abbrev pub subtraction_among : Option Application → Option tests.Subtraction
subtraction_among None = None
subtraction_among (Some it) = if is_subtraction it.op then Some (plain_subtraction it) else None

abbrev pub subtraction_in : Option Applied → Option tests.Subtraction
subtraction_in None = None
subtraction_in (Some it) = Some (record { op = it.op; arguments = operands_of it.arguments.now; site = it.site })

abbrev pub compared_of : Compared → tests.Compared
compared_of (compare.Plainly left mark right) = tests.Plainly (expression_of left.now) mark (expression_of right.now)
compared_of (compare.Number x) = tests.Number (expression_of x.now)
compared_of (compare.Applied it mark) = tests.Applied it.op (operands_of it.arguments.now) it.site mark

-- how the sides are compared
abbrev pub mark_in : tests.Compared → Comparison
mark_in (tests.Plainly x mark y) = mark
mark_in (tests.Number x) = NotEqual
mark_in (tests.Applied op args site mark) = mark
