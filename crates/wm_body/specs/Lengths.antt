-- Lengths of arrays, and initialisers that are to be constant.
use Rattle.std.specs.Prelude.{ℕ, Bool, true, false, ◌||◌, if◌then◌else◌, nat_lt, List, [], ◌∷◌, ◌++◌, length, ℤ, pos, int_lt, Option, Some, None, unsigned_abs}
use Rattle.wm_lang.specs.declared.expression.Expr.{Expr}
use Rattle.wm_lang.specs.declared.place.Position.{Position}
use Rattle.wm_lang.specs.declared.statement.InitializerList.{InitializerList}
use Rattle.wm_ops.specs.declared.operators.Width.{Width}
use Rattle.wm_scope.specs.declared.fault.TokenFault.TheVariants.{NotConstant, BadLength}
use Rattle.wm_scope.specs.declared.scope.Scope.{Scope}
use Rattle.wm_source.specs.Constants.{constant_of, wrapped}
use Rattle.wm_source.specs.Firsts.{first_of}
use Rattle.wm_marks.specs.Marking.{Marking, ◌>>=◌, ◌>>◌, pure, noted, note}
use Rattle.wm_value.specs.Needs.{number_in}

-- what is wrong with an expression that is to be constant and is not
unfoldable pub no_constant : Scope → Expr → Marking (Unit {0})
no_constant scope expression = number_in scope expression >> note NotConstant (first_of expression)

abbrev pub constant_by : Scope → Width → Expr → Option ℤ → Marking ℤ
constant_by scope width expression (Some z) = pure (wrapped width z)
constant_by scope width expression None = no_constant scope expression >> pure (pos 0)

unfoldable pub constant_in : Scope → Width → Expr → Marking ℤ
constant_in scope width expression = constant_by scope width expression (constant_of expression)

-- several, behind those that were read
abbrev pub constants_in : Scope → Width → List ℤ → List Expr → Marking (List ℤ)
constants_in scope width found [] = pure found
constants_in scope width found (value ∷ rest) =
    constant_in scope width value >>= λ z. constants_in scope width (found ++ z ∷ []) rest

abbrev pub bad_length : Position → Marking ℕ
bad_length at = λ m. (1, noted BadLength at m)

abbrev pub told_length : ℤ → ℕ → Position → Marking ℕ
told_length z count at =
    if int_lt z (pos 1) || nat_lt 65536 (unsigned_abs z)
    then bad_length at
    else (if nat_lt (unsigned_abs z) count then bad_length at else pure (unsigned_abs z))

abbrev pub counted_length : ℕ → Position → Marking ℕ
counted_length count at = if nat_lt count 1 || nat_lt 65536 count then bad_length at else pure count

abbrev pub count_of : Option InitializerList → ℕ
count_of None = 0
count_of (Some list) = length list.values

abbrev pub length_by : Scope → Expr → ℕ → Position → Option ℤ → Marking ℕ
length_by scope expression count at (Some z) = told_length z count at
length_by scope expression count at None = no_constant scope expression >> pure 1

-- the length of an array whose name stands at this place, where so many initialisers stand
unfoldable pub array_length : Scope → Option Expr → ℕ → Position → Marking ℕ
array_length scope None count at = counted_length count at
array_length scope (Some expression) count at = length_by scope expression count at (constant_of expression)
