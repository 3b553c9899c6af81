-- Arguments of an operator in their types.
use Rattle.std.specs.Prelude.{ℕ, ℤ, pos, List, Option, Some, None, slice_get}
use Rattle.std.specs.List.{slice_index_or}
use Rattle.wm_numbers.specs.Within.{IsWord16, IsWord32}
use Rattle.wm_ops.specs.declared.operators.Op.{Op}
use Rattle.wm_ops.specs.declared.operators.Width.{Width}
use Rattle.wm_ops.specs.declared.operators.Width.TheVariants.{W16, W32}
use Rattle.wm_ops.specs.Operators.{arg_widths_of}

-- z is a number of the type
abbrev pub HasWidth : Width → ℤ → Type 0
HasWidth W16 z = IsWord16 z
HasWidth W32 z = IsWord32 z

-- z is a number of the type, where there is one
abbrev pub HasWidthOf : Option Width → ℤ → Type 0
HasWidthOf None z = Unit {0}
HasWidthOf (Some width) z = HasWidth width z

-- z may be the argument k of the operator: past the arity any number may
abbrev pub FitsAt : Op → ℕ → ℤ → Type 0
FitsAt op k z = HasWidthOf (slice_get (arg_widths_of op) k) z

-- each argument below the arity lies in its type
pub record ArgsFit (op : Op) (a b c : ℤ) : Type 0 where
  pub first : FitsAt op 0 a
  pub second : FitsAt op 1 b
  pub third : FitsAt op 2 c

-- the argument k of a list of them
abbrev pub arg_at : List ℤ → ℕ → ℤ
arg_at args k = slice_index_or args k (pos 0)
