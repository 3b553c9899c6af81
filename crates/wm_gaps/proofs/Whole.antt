-- The first bound that is passed on all lines of a head: variables, then pairs, then arrays.
use Rattle.std.proofs.Common.{◌≡◌, ℕ, ◌+◌, Bool, length, Option, Some, None, subst, sym, ◌∙◌, inl, inr}
use Rattle.std.proofs.lemmas.List.{length-append}
use Rattle.wm_cert.specs.declared.gap.Line.{Line}
use Rattle.wm_cert.specs.declared.gap.Line.TheVariants.{Bound, Minus, Plus, Array}
use Rattle.wm_domain.specs.Points.{Point}
use Rattle.wm_domain.specs.States.{count_of, array_count}
use Rattle.wm_domain.specs.declared.shape.Shape.{Shape}
use Rattle.wm_gaps.specs.declared.passed.Passed.{Passed}
use Rattle.wm_gaps.specs.First.{IsVariableLine, IsGroupLine, IsArrayLine, IsLine, IsBefore, IsHeld, AreHeld, IsFirst, IsAnswer}

group_behind : (pairs : Bool) (group count : ℕ) (l m : Line) → IsGroupLine pairs group l → IsVariableLine count m → IsBefore l m → ⊥
group_behind pairs group count (Bound v) m is other before = absurd is.1
group_behind pairs group count (Array a) m is other before = absurd is.1
group_behind pairs group count (Minus i j) (Bound v) is other before = before
group_behind pairs group count (Minus i j) (Minus k l) is other before = other
group_behind pairs group count (Minus i j) (Plus k l) is other before = other
group_behind pairs group count (Minus i j) (Array a) is other before = other
group_behind pairs group count (Plus i j) (Bound v) is other before = before
group_behind pairs group count (Plus i j) (Minus k l) is other before = other
group_behind pairs group count (Plus i j) (Plus k l) is other before = other
group_behind pairs group count (Plus i j) (Array a) is other before = other

array_behind : (arrays count : ℕ) (l m : Line) → IsArrayLine arrays l → IsVariableLine count m → IsBefore l m → ⊥
array_behind arrays count (Bound v) m is other before = is
array_behind arrays count (Minus i j) m is other before = is
array_behind arrays count (Plus i j) m is other before = is
array_behind arrays count (Array a) (Bound v) is other before = before
array_behind arrays count (Array a) (Minus k l) is other before = other
array_behind arrays count (Array a) (Plus k l) is other before = other
array_behind arrays count (Array a) (Array b) is other before = other

array_behind_pair : (arrays group : ℕ) (pairs : Bool) (l m : Line) → IsArrayLine arrays l → IsGroupLine pairs group m → IsBefore l m → ⊥
array_behind_pair arrays group pairs (Bound v) m is other before = is
array_behind_pair arrays group pairs (Minus i j) m is other before = is
array_behind_pair arrays group pairs (Plus i j) m is other before = is
array_behind_pair arrays group pairs (Array a) (Bound v) is other before = other.1
array_behind_pair arrays group pairs (Array a) (Minus k l) is other before = before
array_behind_pair arrays group pairs (Array a) (Plus k l) is other before = before
array_behind_pair arrays group pairs (Array a) (Array b) is other before = other.1

-- a bound of a variable
pub variable_first : (pairs : Bool) (shape : Shape) (Has Allowed : Point → Type 0) (it : Passed) → IsFirst (IsVariableLine (count_of shape)) Has Allowed it → IsFirst (IsLine pairs shape) Has Allowed it
variable_first pairs shape Has Allowed it first = record {
  one = inl first.one;
  passed = first.passed;
  before = by_kind;
  low = first.low;
}
  where
    by_kind : (l : Line) → IsLine pairs shape l → IsBefore l it.line → IsHeld Has Allowed l
    by_kind l (inl is) before = first.before l is before
    by_kind l (inr (inl is)) before = absurd (group_behind pairs (length shape.group) (count_of shape) l it.line is first.one before)
    by_kind l (inr (inr is)) before = absurd (array_behind (array_count shape) (count_of shape) l it.line is first.one before)

-- a bound of a pair, where no variable's is passed
pub group_first : (pairs : Bool) (shape : Shape) (Has Allowed : Point → Type 0) (it : Passed) → AreHeld (IsVariableLine (count_of shape)) Has Allowed → IsFirst (IsGroupLine pairs (length shape.group)) Has Allowed it → IsFirst (IsLine pairs shape) Has Allowed it
group_first pairs shape Has Allowed it variables first = record {
  one = inr (inl first.one);
  passed = first.passed;
  before = by_kind;
  low = first.low;
}
  where
    by_kind : (l : Line) → IsLine pairs shape l → IsBefore l it.line → IsHeld Has Allowed l
    by_kind l (inl is) before = variables l is
    by_kind l (inr (inl is)) before = first.before l is before
    by_kind l (inr (inr is)) before = absurd (array_behind_pair (array_count shape) (length shape.group) pairs l it.line is first.one before)

-- an array's, or none
pub arrays_answer : (pairs : Bool) (shape : Shape) (Has Allowed : Point → Type 0) (it : Option Passed) → AreHeld (IsVariableLine (count_of shape)) Has Allowed → AreHeld (IsGroupLine pairs (length shape.group)) Has Allowed → IsAnswer (IsArrayLine (array_count shape)) Has Allowed it → IsAnswer (IsLine pairs shape) Has Allowed it
arrays_answer pairs shape Has Allowed None variables group answer = by_kind
  where
    by_kind : AreHeld (IsLine pairs shape) Has Allowed
    by_kind l (inl is) = variables l is
    by_kind l (inr (inl is)) = group l is
    by_kind l (inr (inr is)) = answer l is
arrays_answer pairs shape Has Allowed (Some it) variables group answer = record {
  one = inr (inr answer.one);
  passed = answer.passed;
  before = by_kind;
  low = answer.low;
}
  where
    by_kind : (l : Line) → IsLine pairs shape l → IsBefore l it.line → IsHeld Has Allowed l
    by_kind l (inl is) before = variables l is
    by_kind l (inr (inl is)) before = group l is
    by_kind l (inr (inr is)) before = answer.before l is before

held : (One : Line → Type 0) (Has Allowed : Point → Type 0) (it : Option Passed) → it ≡ None → IsAnswer One Has Allowed it → AreHeld One Has Allowed
held One Has Allowed it e answer = subst (IsAnswer One Has Allowed) e answer

-- the same with the numbers of variables and arrays as they were counted
pub behind_all : (pairs : Bool) (shape : Shape) (Has Allowed : Point → Type 0) (v g a : ℕ) (x y it : Option Passed) → v ≡ length shape.group + length shape.singles → g ≡ length shape.group → a ≡ array_count shape → x ≡ None → y ≡ None → IsAnswer (IsVariableLine v) Has Allowed x → IsAnswer (IsGroupLine pairs g) Has Allowed y → IsAnswer (IsArrayLine a) Has Allowed it → IsAnswer (IsLine pairs shape) Has Allowed it
behind_all pairs shape Has Allowed v g a x y it ev eg ea ex ey variables group arrays =
    arrays_answer pairs shape Has Allowed it
    (subst (λ v. AreHeld (IsVariableLine v) Has Allowed) (ev ∙ sym (length-append shape.group shape.singles)) (held (IsVariableLine v) Has Allowed x ex variables))
    (subst (λ g. AreHeld (IsGroupLine pairs g) Has Allowed) eg (held (IsGroupLine pairs g) Has Allowed y ey group))
    (subst (λ a. IsAnswer (IsArrayLine a) Has Allowed it) ea arrays)
