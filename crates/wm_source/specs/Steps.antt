-- The step of a for loop: what its counter is changed by with each turn, told by the text of its step part.
use Rattle.std.specs.Prelude.{ℕ, suc, Bool, true, false, ◌&&◌, if◌then◌else◌, nat_lt, List, [], ◌∷◌, codes, ℤ, pos, negsuc, Option, Some, None, unsigned_abs, nat_eq}
use Rattle.std.specs.Cmp.Lexicographic.{pointwise}
use Rattle.wm_lang.specs.declared.expression.Expr.{Expr}
use Rattle.wm_lang.specs.declared.expression.Identifier.{Identifier}
use Rattle.wm_lang.specs.declared.expression.SpotKind.{SpotKind}
use Rattle.wm_lang.specs.declared.expression.SpotKind.TheVariants as spot
use Rattle.wm_lang.specs.declared.statement.AssignMark.{AssignMark}
use Rattle.wm_lang.specs.declared.statement.AssignMark.TheVariants as assign
use Rattle.wm_lang.specs.declared.statement.Simple.{Simple}
use Rattle.wm_lang.specs.declared.statement.Simple.TheVariants as simple
use Rattle.wm_source.specs.Constants.{value_of, constant_of, and_also}
use Rattle.wm_source.specs.Firsts.{bare_name}
use Rattle.wm_source.specs.Reading.{source_of}
use Rattle.wm_source.specs.Source.{Mark, Either, Both, Equal, NotEqual, Less, LessEqual, Greater, GreaterEqual, Plus, Minus, Times, Divide, Level, Disjunction, Conjunction, Comparisons, Sums, Products, Source, Chain, Unary, Cast, Number, Scalar, Element, Pointed, Member, Call, Parenthesis, AddressOf, AddressOfElement, AddressOfOther, Parts, End, Part, Sources, None as NoSource, More}

-- bytes that are alike
abbrev pub same_bytes : List ℕ → List ℕ → Bool
same_bytes = pointwise nat_eq

-- the size of a number, where it is a step: from 1 to 32767
abbrev pub size_of : ℤ → Option ℕ
size_of z = if nat_lt 0 (unsigned_abs z) && nat_lt (unsigned_abs z) 32768 then Some (unsigned_abs z) else None

abbrev pub constant_size : Option ℤ → Option ℕ
constant_size None = None
constant_size (Some z) = size_of z

-- the expression is this name, parentheses aside
abbrev pub is_named : Identifier → Option Identifier → Bool
is_named name None = false
is_named name (Some other) = same_bytes name.name other.name

-- `v + c` and `v - c`
abbrev pub sum_size : Identifier → Source → Parts → Option ℕ
sum_size name first End = None
sum_size name first (Part mark at operand End) =
    if is_named name (bare_name first) then constant_size (value_of operand) else None
sum_size name first (Part mark at operand (Part mark2 at2 operand2 rest)) = None

-- `add(v, c)` and `sub(v, c)`
abbrev pub moves : Identifier → Bool
moves called = if same_bytes called.name (codes "add") then true else same_bytes called.name (codes "sub")

abbrev pub call_size : Identifier → Identifier → Sources → Option ℕ
call_size name called NoSource = None
call_size name called (More first NoSource) = None
call_size name called (More first (More second NoSource)) =
    if moves called then (if is_named name (bare_name first) then constant_size (value_of second) else None) else None
call_size name called (More first (More second (More third rest))) = None

-- the value that is assigned to the name moves it
abbrev pub moved_size : Identifier → Source → Option ℕ
moved_size name (Chain Disjunction at first parts) = None
moved_size name (Chain Conjunction at first parts) = None
moved_size name (Chain Comparisons at first parts) = None
moved_size name (Chain Sums at first parts) = sum_size name first parts
moved_size name (Chain Products at first parts) = None
moved_size name (Call called arguments) = call_size name called arguments
moved_size name (Parenthesis at inner) = moved_size name inner
moved_size name (Unary mark at operand) = None
moved_size name (Cast at to operand) = None
moved_size name (Number at z) = None
moved_size name (Scalar at other) = None
moved_size name (Element at other bracket index) = None
moved_size name (Pointed at star other) = None
moved_size name (Member at object) = None
moved_size name (AddressOf at other) = None
moved_size name (AddressOfElement at other bracket index) = None
moved_size name (AddressOfOther at object) = None

abbrev pub assigned_size : Identifier → AssignMark → Expr → Option ℕ
assigned_size name assign.Plain value = moved_size name (source_of value)
assigned_size name assign.Plus value = constant_size (constant_of value)
assigned_size name assign.Minus value = constant_size (constant_of value)
assigned_size name assign.Times value = None

abbrev pub assignment_size : SpotKind Expr → AssignMark → Expr → Option ℕ
assignment_size (spot.Scalar name) mark value = assigned_size name mark value
assignment_size (spot.Element name bracket index) mark value = None
assignment_size (spot.Pointed star name) mark value = None
assignment_size (spot.Member object mark mark_at member) assign value = None
assignment_size (spot.MemberElement object mark mark_at member bracket index) assign value = None

abbrev pub stepped_size : SpotKind Expr → Option ℕ
stepped_size (spot.Scalar name) = Some 1
stepped_size (spot.Element name bracket index) = None
stepped_size (spot.Pointed star name) = None
stepped_size (spot.Member object mark mark_at member) = None
stepped_size (spot.MemberElement object mark mark_at member bracket index) = None

-- the step that one part of the step part tells
abbrev pub part_size : Simple → Option ℕ
part_size (simple.Assign spot mark at value) = assignment_size spot.kind mark value
part_size (simple.StepAfter spot mark at) = stepped_size spot.kind
part_size (simple.StepBefore mark at spot) = stepped_size spot.kind
part_size (simple.Call call) = None

abbrev pub first_size : Option ℕ → ℕ → ℕ
first_size None other = other
first_size (Some size) other = size

-- that of the first part that tells one, else 1
abbrev pub step_of : List Simple → ℕ
step_of [] = 1
step_of (part ∷ rest) = first_size (part_size part) (step_of rest)
