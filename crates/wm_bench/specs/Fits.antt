-- That an argument lies in its type has one proof at most, so that it may be a ghost field.
use Rattle.std.specs.Prelude.{ℕ, ℤ, Option, Some, None, slice_get}
use denote.Struct.Props as logic
use Rattle.wm_ops.specs.Arguments.{HasWidthOf, FitsAt}
use Rattle.wm_ops.specs.Operators.{arg_widths_of}
use Rattle.wm_ops.specs.declared.operators.Op.{Op}
use Rattle.wm_ops.specs.declared.operators.Width.{Width}
use Rattle.wm_ops.specs.declared.operators.Width.TheVariants.{W16, W32}

pub HasWidthOf-prop : (width : Option Width) (z : ℤ) → IsProp (HasWidthOf width z)
HasWidthOf-prop None z = Prim.hlevel logic.props
HasWidthOf-prop (Some W16) z = Prim.hlevel logic.props
HasWidthOf-prop (Some W32) z = Prim.hlevel logic.props

pub FitsAt-prop : (op : Op) (k : ℕ) (z : ℤ) → IsProp (FitsAt op k z)
FitsAt-prop op k z = HasWidthOf-prop (slice_get (arg_widths_of op) k) z

pub ruleset fits = (HasWidthOf-prop, FitsAt-prop, logic.props)
