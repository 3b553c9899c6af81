-- The laws.
use Rattle.std.specs.Prelude.{◌≡◌, ℕ, ◌<◌, ◌≤◌, ℤ, Bool, List, [], map, length, Option, Some, None}
use Rattle.std.specs.List.{All}
use Rattle.std.specs.Option.{option_map_or}
use Rattle.wm_lang.specs.declared.expression.Expr.{Expr}
use Rattle.wm_lang.specs.declared.place.Position.{Position}
use Rattle.wm_lang.specs.declared.statement.Initializer.{Initializer}
use Rattle.wm_lang.specs.declared.statement.Simple.{Simple}
use Rattle.wm_ops.specs.Arguments.{HasWidth}
use Rattle.wm_ops.specs.declared.operators.Width.{Width}
use Rattle.wm_program.specs.declared.tree.Converted.{Converted}
use Rattle.wm_program.specs.declared.tree.Expr.{Expr as Tree}
use Rattle.wm_program.specs.Tree.{Always}
use Rattle.wm_program.specs.Trees.{expression_of, test_of, effect_of, tree_of}
use Rattle.wm_program.specs.WellFormed.{FitsConversion, FitsTest, FitsEffect, FitsTree, ObjectFits}
use Rattle.wm_marks.specs.declared.marks.Marks.{Marks}
use Rattle.wm_body.specs.Declarations.{info, converted}
use Rattle.wm_body.specs.Lengths.{array_length, constants_in}
use Rattle.wm_body.specs.Simples.{all_simple}
use Rattle.wm_body.specs.Statements.{tested, returned}
use Rattle.wm_fitting.specs.Fitting.{Setting, ScopeFits, Good}
use Rattle.wm_fitting_acts.specs.PlainActs.{IsPlainSimple}
use Rattle.wm_fitting_parts.specs.PlainParts.{IsPlainOption, IsPlainInitial}

-- the acts in the head of a loop
abbrev pub ActsFit : Type 0
ActsFit =
    (S : Setting) → ScopeFits S → (simples : List Simple) → All IsPlainSimple simples → (m : Marks)
    → Good S (λ acts. All (FitsEffect S.code S.routine) (map effect_of acts)) m (all_simple S.scope [] simples m)

-- the condition of a loop, which may be absent
abbrev pub TestsFit : Type 0
TestsFit =
    (S : Setting) → ScopeFits S → (condition : Option Expr) → IsPlainOption condition → (m : Marks)
    → Good S (λ test. FitsTest S.code S.routine (option_map_or test_of test Always)) m (tested condition S.scope m)

-- a return, in a function with or without a result
abbrev pub ReturnsFit : Type 0
ReturnsFit =
    (S : Setting) → ScopeFits S → (value : Option Expr) → IsPlainOption value → (at : Position) (function : ℕ) (inside : Bool) (m : Marks)
    → Good S (λ it. FitsTree S.code S.routine function (tree_of it) inside) m (returned value at S.routine.result S.scope m)

-- a length is from 1 to 65,536, and no less than the number of initialisers
abbrev pub LengthsFit : Type 0
LengthsFit =
    (S : Setting) → ScopeFits S → (expression : Option Expr) → IsPlainOption expression → (count : ℕ) (at : Position) (m : Marks)
    → Good S (λ length. (0 < length) × (length ≤ 65536) × (count ≤ length)) m (array_length S.scope expression count at m)

-- as many numbers of the type as there are initialisers
abbrev pub ConstantsFit : Type 0
ConstantsFit =
    (S : Setting) → ScopeFits S → (width : Width) (values : List Expr) → All (λ value. IsPlainOption (Some value)) values → (m : Marks)
    → Good S (λ numbers. All (HasWidth width) numbers × (length numbers ≡ length values)) m (constants_in S.scope width [] values m)

-- what a scalar begins with, where it begins with something
abbrev pub FitsInitial : Setting → Width → Option (Converted Tree) → Type 0
FitsInitial S width None = Unit {0}
FitsInitial S width (Some x) = FitsConversion S.code S.routine (expression_of x.value) x.narrowing width

abbrev pub ConversionsFit : Type 0
ConversionsFit =
    (S : Setting) → ScopeFits S → (width : Width) (initial : Option Initializer) → IsPlainInitial initial → (m : Marks)
    → Good S (FitsInitial S width) m (converted width initial S.scope m)

abbrev pub IsLength : Option ℕ → List ℤ → Type 0
IsLength None numbers = length numbers ≤ 1
IsLength (Some count) numbers = (0 < count) × (length numbers ≤ count)

-- an object of a fitting length that begins with numbers of its type
abbrev pub ObjectsFit : Type 0
ObjectsFit =
    (name : List ℕ) (width : Width) (constant : Bool) (count : Option ℕ) (numbers : List ℤ)
    → IsLength count numbers → All (HasWidth width) numbers → ObjectFits (info name width constant count numbers)
