-- What stands in statements and declarations.
use Rattle.std.proofs.Common.{◌≡◌, ℕ, ℤ, pos, negsuc, Bool, true, false, ◌||◌, cond, Option, Some, None, List, [], ◌∷◌, ◌++◌}
use Rattle.std.specs.Prelude.{nat_lt, int_lt, unsigned_abs}
use Rattle.wm_lang.specs.declared.expression.Expr.{Expr}
use Rattle.wm_lang.specs.declared.place.Position.{Position}
use Rattle.wm_lang.specs.declared.statement.Initializer.{Initializer}
use Rattle.wm_ops.specs.declared.operators.Width.{Width}
use Rattle.wm_scope.specs.declared.fault.TokenFault.TheVariants.{WrongKind, NotConstant, BadLength}
use Rattle.wm_scope.specs.declared.scope.Scope.{Scope}
use Rattle.wm_source.specs.Constants.{constant_of}
use Rattle.wm_source.specs.Firsts.{first_of}
use Rattle.wm_source.specs.Reading.{source_of}
use Rattle.wm_marks.specs.declared.marks.Marks.{Marks}
use Rattle.wm_marks.specs.Marking.{Marking, pure, noted}
use Rattle.wm_value.specs.Needs.{number_in}
use Rattle.wm_value.specs.Widths.{narrowing_in}
use Rattle.wm_body.specs.Declarations.{converted}
use Rattle.wm_body.specs.Lengths.{no_constant, constant_by, constant_in, constants_in, bad_length, told_length, counted_length, length_by, array_length}
use Rattle.wm_body.specs.Statements.{tested, left, returned, returned_value}
use Rattle.wm_fitting.specs.Fitting.{Grows}
use Rattle.wm_fitting.proofs.Collecting.{grows_none, grows_then}
use Rattle.wm_fitting_growth.proofs.Adding.{noted_grows}
use Rattle.wm_fitting_growth.proofs.Names.{narrowing_grows}
use Rattle.wm_fitting_growth.proofs.Forms.{expressions_grow, numbers_grow, conditions_grow}

-- ---- conditions and returns

pub tests_grow : (scope : Scope) (condition : Option Expr) (m : Marks) → Grows m (tested condition scope m).1
unfolding tested
tests_grow scope None m = grows_none m
tests_grow scope (Some condition) m = conditions_grow scope condition m

left_grows : (at : Position) (width : Option Width) (m : Marks) → Grows m (left at width m).1
left_grows at (Some width) m = noted_grows WrongKind at m
left_grows at None m = grows_none m

returned_value_grows : (scope : Scope) (x : Expr) (at : Position) (width : Option Width) (m : Marks) → Grows m (returned_value x at width scope m).1
unfolding returned_value
returned_value_grows scope x at (Some width) m =
    grows_then (narrowing_grows scope (source_of x) width at m) (numbers_grow scope x (narrowing_in scope (source_of x) width at m).1)
returned_value_grows scope x at None m = grows_then (noted_grows WrongKind at m) (expressions_grow scope (source_of x) false (noted WrongKind at m))

pub returns_grow : (scope : Scope) (value : Option Expr) (at : Position) (width : Option Width) (m : Marks) → Grows m (returned value at width scope m).1
unfolding returned
returns_grow scope None at width m = left_grows at width m
returns_grow scope (Some x) at width m = returned_value_grows scope x at width m

-- ---- lengths and constants

no_constant_grows : (scope : Scope) (x : Expr) (m : Marks) → Grows m (no_constant scope x m).1
unfolding no_constant
no_constant_grows scope x m = grows_then (numbers_grow scope x m) (noted_grows NotConstant (first_of x) (number_in scope x m).1)

bad_unless : (b : Bool) (at : Position) (p : Marking ℕ) → ((m : Marks) → Grows m (p m).1) → (m : Marks) → Grows m (cond b (bad_length at) p m).1
bad_unless true at p h m = noted_grows BadLength at m
bad_unless false at p h m = h m

told_grows : (z : ℤ) (count : ℕ) (at : Position) (m : Marks) → Grows m (told_length z count at m).1
told_grows z count at m =
    let n = unsigned_abs z in
    bad_unless (int_lt z (pos 1) || nat_lt 65536 n) at (cond (nat_lt n count) (bad_length at) (pure n)) (bad_unless (nat_lt n count) at (pure n) grows_none) m

length_by_grows : (scope : Scope) (x : Expr) (count : ℕ) (at : Position) (o : Option ℤ) (m : Marks) → Grows m (length_by scope x count at o m).1
length_by_grows scope x count at (Some z) m = told_grows z count at m
length_by_grows scope x count at None m = no_constant_grows scope x m

pub lengths_grow : (scope : Scope) (expression : Option Expr) (count : ℕ) (at : Position) (m : Marks) → Grows m (array_length scope expression count at m).1
unfolding array_length
lengths_grow scope None count at m = bad_unless (nat_lt count 1 || nat_lt 65536 count) at (pure count) grows_none m
lengths_grow scope (Some x) count at m = length_by_grows scope x count at (constant_of x) m

constant_by_grows : (scope : Scope) (width : Width) (x : Expr) (o : Option ℤ) (m : Marks) → Grows m (constant_by scope width x o m).1
constant_by_grows scope width x (Some z) m = grows_none m
constant_by_grows scope width x None m = no_constant_grows scope x m

constant_grows : (scope : Scope) (width : Width) (x : Expr) (m : Marks) → Grows m (constant_in scope width x m).1
unfolding constant_in
constant_grows scope width x m = constant_by_grows scope width x (constant_of x) m

pub constants_grow : (scope : Scope) (width : Width) (found : List ℤ) (values : List Expr) (m : Marks) → Grows m (constants_in scope width found values m).1
constants_grow scope width found [] m = grows_none m
constants_grow scope width found (x ∷ rest) m =
    let z = constant_in scope width x m in
    grows_then (constant_grows scope width x m) (constants_grow scope width (found ++ z.0 ∷ []) rest z.1)

-- ---- what a scalar begins with

pub conversions_grow : (scope : Scope) (width : Width) (initial : Option Initializer) (m : Marks) → Grows m (converted width initial scope m).1
unfolding converted
conversions_grow scope width None m = grows_none m
conversions_grow scope width (Some initial) m =
    let x = initial.value in
    grows_then (narrowing_grows scope (source_of x) width initial.at m) (numbers_grow scope x (narrowing_in scope (source_of x) width initial.at m).1)
