-- The step of a loop is from 1 to 32767.
use Rattle.std.proofs.Common.{◌≡◌, ℕ, ◌<◌, Bool, true, false, ◌&&◌, cond, List, [], ◌∷◌, ℤ, Option, Some, None, refl, arith}
use Rattle.std.proofs.lemmas.Bool.Decides.{nat_tests}
use Rattle.std.specs.Prelude.{nat_lt, unsigned_abs}
use Rattle.wm_lang.specs.declared.expression.Expr.{Expr}
use Rattle.wm_lang.specs.declared.expression.Identifier.{Identifier}
use Rattle.wm_lang.specs.declared.expression.SpotKind.{SpotKind}
use Rattle.wm_lang.specs.declared.expression.SpotKind.TheVariants as spot
use Rattle.wm_lang.specs.declared.statement.AssignMark.{AssignMark}
use Rattle.wm_lang.specs.declared.statement.AssignMark.TheVariants as assign
use Rattle.wm_lang.specs.declared.statement.Simple.{Simple}
use Rattle.wm_lang.specs.declared.statement.Simple.TheVariants as simple
use Rattle.wm_source.specs.Constants.{value_of, constant_of}
use Rattle.wm_source.specs.Firsts.{bare_name}
use Rattle.wm_source.specs.Reading.{source_of}
use Rattle.wm_source.specs.Source.{Disjunction, Conjunction, Comparisons, Sums, Products, Source, Chain, Unary, Cast, Number, Scalar, Element, Pointed, Member, Call, Parenthesis, AddressOf, AddressOfElement, AddressOfOther, Parts, End, Part, Sources, None as NoSource, More}
use Rattle.wm_source.specs.Steps.{size_of, constant_size, is_named, sum_size, moves, call_size, moved_size, assigned_size, assignment_size, stepped_size, part_size, first_size, step_of}

abbrev pub IsStep : ℕ → Type 0
IsStep n = (0 < n) × (n < 32768)

abbrev IsStepOption : Option ℕ → Type 0
IsStepOption None = Unit {0}
IsStepOption (Some n) = IsStep n

size_by : (n : ℕ) (p q : Bool) → nat_lt 0 n ≡ p → nat_lt n 32768 ≡ q → IsStepOption (cond (p && q) (Some n) None)
size_by n true true d e = (grind (arith, nat_tests, d), grind (arith, nat_tests, e))
size_by n true false d e = tt
size_by n false q d e = tt

size_fits : (z : ℤ) → IsStepOption (size_of z)
size_fits z = let n = unsigned_abs z in size_by n (nat_lt 0 n) (nat_lt n 32768) refl refl

constant_fits : (o : Option ℤ) → IsStepOption (constant_size o)
constant_fits None = tt
constant_fits (Some z) = size_fits z

where_fits : (b : Bool) (o : Option ℕ) → IsStepOption o → IsStepOption (cond b o None)
where_fits true o h = h
where_fits false o h = tt

sum_fits : (name : Identifier) (first : Source) (parts : Parts) → IsStepOption (sum_size name first parts)
sum_fits name first End = tt
sum_fits name first (Part mark at operand End) = where_fits (is_named name (bare_name first)) _ (constant_fits (value_of operand))
sum_fits name first (Part mark at operand (Part mark2 at2 operand2 rest)) = tt

call_fits : (name called : Identifier) (arguments : Sources) → IsStepOption (call_size name called arguments)
call_fits name called NoSource = tt
call_fits name called (More first NoSource) = tt
call_fits name called (More first (More second NoSource)) =
    where_fits (moves called) _ (where_fits (is_named name (bare_name first)) _ (constant_fits (value_of second)))
call_fits name called (More first (More second (More third rest))) = tt

moved_fits : (name : Identifier) (source : Source) → IsStepOption (moved_size name source)
moved_fits name (Chain Disjunction at first parts) = tt
moved_fits name (Chain Conjunction at first parts) = tt
moved_fits name (Chain Comparisons at first parts) = tt
moved_fits name (Chain Sums at first parts) = sum_fits name first parts
moved_fits name (Chain Products at first parts) = tt
moved_fits name (Call called arguments) = call_fits name called arguments
moved_fits name (Parenthesis at inner) = moved_fits name inner
moved_fits name (Unary mark at operand) = tt
moved_fits name (Cast at to operand) = tt
moved_fits name (Number at z) = tt
moved_fits name (Scalar at other) = tt
moved_fits name (Element at other bracket index) = tt
moved_fits name (Pointed at star other) = tt
moved_fits name (Member at object) = tt
moved_fits name (AddressOf at other) = tt
moved_fits name (AddressOfElement at other bracket index) = tt
moved_fits name (AddressOfOther at object) = tt

assigned_fits : (name : Identifier) (mark : AssignMark) (value : Expr) → IsStepOption (assigned_size name mark value)
assigned_fits name assign.Plain value = moved_fits name (source_of value)
assigned_fits name assign.Plus value = constant_fits (constant_of value)
assigned_fits name assign.Minus value = constant_fits (constant_of value)
assigned_fits name assign.Times value = tt

assignment_fits : (it : SpotKind Expr) (mark : AssignMark) (value : Expr) → IsStepOption (assignment_size it mark value)
assignment_fits (spot.Scalar name) mark value = assigned_fits name mark value
assignment_fits (spot.Element name bracket index) mark value = tt
assignment_fits (spot.Pointed star name) mark value = tt
assignment_fits (spot.Member object mark mark_at member) assign value = tt
assignment_fits (spot.MemberElement object mark mark_at member bracket index) assign value = tt

stepped_fits : (it : SpotKind Expr) → IsStepOption (stepped_size it)
stepped_fits (spot.Scalar name) = (omega arith, omega arith)
stepped_fits (spot.Element name bracket index) = tt
stepped_fits (spot.Pointed star name) = tt
stepped_fits (spot.Member object mark mark_at member) = tt
stepped_fits (spot.MemberElement object mark mark_at member bracket index) = tt

part_fits : (part : Simple) → IsStepOption (part_size part)
part_fits (simple.Assign it mark at value) = assignment_fits it.kind mark value
part_fits (simple.StepAfter it mark at) = stepped_fits it.kind
part_fits (simple.StepBefore mark at it) = stepped_fits it.kind
part_fits (simple.Call call) = tt

first_fits : (o : Option ℕ) (other : ℕ) → IsStepOption o → IsStep other → IsStep (first_size o other)
first_fits None other h k = k
first_fits (Some size) other h k = h

pub steps_fit : (parts : List Simple) → IsStep (step_of parts)
steps_fit [] = (omega arith, omega arith)
steps_fit (part ∷ rest) = first_fits (part_size part) (step_of rest) (part_fits part) (steps_fit rest)
