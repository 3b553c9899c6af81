-- Objects of file scope: lengths and numbers of a faultless reading, whatever was collected.
use Rattle.std.proofs.Common.{◌≡◌, ℕ, ◌+◌, ◌<◌, ◌≤◌, Bool, true, false, ◌||◌, cond, Option, Some, None, List, [], ◌∷◌, ◌++◌, length, ℤ, pos, negsuc, refl, ◌∙◌, length-append, arith}
use Rattle.std.proofs.lemmas.Bool.Decides.{nat_tests}
use Rattle.std.proofs.lemmas.List.Elements.{All-nil, All-cons, All-head, All-tail, All-push}
use Rattle.std.specs.List.{All}
use Rattle.std.specs.Prelude.{nat_lt}
use Rattle.wm_lang.specs.declared.expression.Expr.{Expr}
use Rattle.wm_lang.specs.declared.expression.Identifier.{Identifier}
use Rattle.wm_lang.specs.declared.place.Position.{Position}
use Rattle.wm_lang.specs.declared.statement.Declarator.{Declarator}
use Rattle.wm_lang.specs.declared.statement.Declarator.TheVariants as declarator
use Rattle.wm_lang.specs.declared.statement.Initializer.{Initializer}
use Rattle.wm_lang.specs.declared.statement.InitializerList.{InitializerList}
use Rattle.wm_numbers.specs.Within.{IsWord32}
use Rattle.wm_ops.proofs.WidthLemmas.{low_half_fits}
use Rattle.wm_ops.specs.Arguments.{HasWidth}
use Rattle.wm_ops.specs.declared.operators.Width.{Width}
use Rattle.wm_ops.specs.declared.operators.Width.TheVariants.{W16, W32}
use Rattle.wm_program.specs.declared.faults.What.TheVariants.{Objects}
use Rattle.wm_program.specs.declared.program.ObjectInfo.{ObjectInfo}
use Rattle.wm_program.specs.WellFormed.{ObjectFits}
use Rattle.wm_scope.specs.declared.fault.TokenFault.TheVariants.{TooMany}
use Rattle.wm_scope.specs.declared.scope.Scope.{Scope}
use Rattle.wm_source.specs.Constants.{constant_of, wrapped}
use Rattle.wm_source.specs.Reading.{source_of}
use Rattle.wm_marks.specs.declared.marks.Marks.{Marks}
use Rattle.wm_marks.specs.Marking.{pure}
use Rattle.wm_body.specs.declared.work.Work.{Work}
use Rattle.wm_body.specs.Declarations.{name_of, length_of, value_constants, list_constants, constants_of, info, object}
use Rattle.wm_body.specs.Lengths.{no_constant, constant_by, constant_in, constants_in, bad_length, told_length, length_by, array_length, count_of}
use Rattle.wm_body.specs.Works.{within, tell, noted_object, with_object, make_object}
use Rattle.wm_fitting.specs.Plain.{IsPlain}
use Rattle.wm_fitting.proofs.Collecting.{some_none, get_front}
use Rattle.wm_fitting.proofs.Ranges.{value_range}
use Rattle.wm_fitting_growth.proofs.Adding.{noted_grows}
use Rattle.wm_fitting_growth_acts.proofs.Parts.{constants_grow}
use Rattle.wm_fitting_parts.proofs.Lengths as lengths
use Rattle.wm_fitting_declarations.specs.PlainDeclarations.{IsPlainValue, IsPlainList, IsPlainDeclarator}
use Rattle.wm_fitting_declarations.specs.Works.{Proceeds}
use Rattle.wm_fitting_declarations.proofs.Stepping.{marked, proceeds_then, stays}
use Rattle.wm_fitting_declarations.proofs.Parts.{IsCount, AreNumbers, length_grows, constants_of_grow, lengths_agree}

-- where no fault is noted up to its end, what a step gives has the property
abbrev Sound : {A : Type 0} → (A → Type 0) → A × Marks → Type 0
Sound Q given = given.1.least ≡ None → Q given.0

-- ---- numbers

wrapped_has : (width : Width) (z : ℤ) → IsWord32 z → HasWidth width (wrapped width z)
wrapped_has W16 z w = low_half_fits z
wrapped_has W32 z w = w

constant_by_sound : (scope : Scope) (width : Width) (x : Expr) → IsPlain (source_of x) → (o : Option ℤ) → constant_of x ≡ o → (m : Marks) → Sound (HasWidth width) (constant_by scope width x o m)
unfolding no_constant
constant_by_sound scope width x p (Some z) e m l = wrapped_has width z (value_range (source_of x) z e)
constant_by_sound scope width x p None e m l = absurd (some_none _ l)

constant_sound : (scope : Scope) (width : Width) (x : Expr) → IsPlain (source_of x) → (m : Marks) → Sound (HasWidth width) (constant_in scope width x m)
unfolding constant_in
constant_sound scope width x p m l = constant_by_sound scope width x p (constant_of x) refl m l

constants_behind : (scope : Scope) (width : Width) (found : List ℤ) (values : List Expr) → All IsPlainValue values → (m : Marks) → All (HasWidth width) found
    → Sound (λ numbers. All (HasWidth width) numbers × (length numbers ≡ length found + length values)) (constants_in scope width found values m)
constants_behind scope width found [] p m h l = (h, omega arith)
constants_behind scope width found (x ∷ rest) p m h l =
    let z = constant_in scope width x m in
    let g = constants_grow scope width (found ++ z.0 ∷ []) rest z.1 in
    let r = constants_behind scope width (found ++ z.0 ∷ []) rest (All-tail IsPlainValue x rest p) z.1
    (All-push (HasWidth width) found z.0 h (constant_sound scope width x (All-head IsPlainValue x rest p) m (g.least l))) l in
    (r.0, omega (arith, r.1, length-append found (z.0 ∷ [])))

value_sound : (scope : Scope) (width : Width) (name : Identifier) (initial : Option Initializer) → IsPlainDeclarator (declarator.Scalar name initial) → (m : Marks) → Sound (AreNumbers width (declarator.Scalar name initial)) (value_constants width initial scope m)
value_sound scope width name None p m l = (All-nil (HasWidth width), omega arith)
value_sound scope width name (Some initial) p m l =
    let r = constants_behind scope width [] (initial.value ∷ []) (All-cons IsPlainValue initial.value [] p (All-nil IsPlainValue)) m (All-nil (HasWidth width)) l in
    (r.0, omega (arith, r.1))

list_sound : (scope : Scope) (width : Width) (initial : Option InitializerList) → IsPlainList initial → (m : Marks) → Sound (λ numbers. All (HasWidth width) numbers × (length numbers ≡ count_of initial)) (list_constants width initial scope m)
list_sound scope width None p m l = (All-nil (HasWidth width), refl)
list_sound scope width (Some initial) p m l =
    let r = constants_behind scope width [] initial.values p m (All-nil (HasWidth width)) l in
    (r.0, omega (arith, r.1))

numbers_sound : (scope : Scope) (width : Width) (it : Declarator) → IsPlainDeclarator it → (m : Marks) → Sound (AreNumbers width it) (constants_of width it scope m)
unfolding constants_of
numbers_sound scope width (declarator.Scalar name initial) p m l = value_sound scope width name initial p m l
numbers_sound scope width (declarator.Array name bracket size initial) p m l = list_sound scope width initial p.1 m l

-- ---- lengths

abbrev IsTold : ℕ → ℕ → Type 0
IsTold count n = (0 < n) × (count ≤ n)

not_less : (a b : ℕ) → nat_lt a b ≡ false → b ≤ a
not_less a b e = grind (arith, nat_tests, e)

neither : (p q : Bool) → (p || q) ≡ false → (p ≡ false) × (q ≡ false)
neither true q e = cc
neither false q e = (refl, e)

counted_sound : (count : ℕ) (at : Position) (b : Bool) → (nat_lt count 1 || nat_lt 65536 count) ≡ b → (m : Marks) → Sound (IsTold count) (cond b (bad_length at) (pure count) m)
counted_sound count at true e m l = absurd (some_none _ l)
counted_sound count at false e m l = (not_less count 1 (neither (nat_lt count 1) (nat_lt 65536 count) e).0, omega arith)

enough_sound : (n count : ℕ) (at : Position) (b : Bool) → nat_lt n count ≡ b → 0 < n → (m : Marks) → Sound (IsTold count) (cond b (bad_length at) (pure n) m)
enough_sound n count at true e h m l = absurd (some_none _ l)
enough_sound n count at false e h m l = (h, not_less n count e)

told_by : (n count : ℕ) (at : Position) (b : Bool) → (nat_lt n 1 || nat_lt 65536 n) ≡ b → (m : Marks) → Sound (IsTold count) (cond b (bad_length at) (cond (nat_lt n count) (bad_length at) (pure n)) m)
told_by n count at true e m l = absurd (some_none _ l)
told_by n count at false e m l =
    enough_sound n count at (nat_lt n count) refl (not_less n 1 (neither (nat_lt n 1) (nat_lt 65536 n) e).0) m l

told_sound : (z : ℤ) (count : ℕ) (at : Position) (m : Marks) → Sound (IsTold count) (told_length z count at m)
told_sound (pos n) count at m l = told_by n count at (nat_lt n 1 || nat_lt 65536 n) refl m l
told_sound (negsuc n) count at m l = absurd (some_none _ l)

length_by_sound : (scope : Scope) (x : Expr) (count : ℕ) (at : Position) (o : Option ℤ) (m : Marks) → Sound (IsTold count) (length_by scope x count at o m)
unfolding no_constant
length_by_sound scope x count at (Some z) m l = told_sound z count at m l
length_by_sound scope x count at None m l = absurd (some_none _ l)

array_sound : (scope : Scope) (size : Option Expr) (count : ℕ) (at : Position) (m : Marks) → Sound (IsTold count) (array_length scope size count at m)
unfolding array_length
array_sound scope None count at m l = counted_sound count at (nat_lt count 1 || nat_lt 65536 count) refl m l
array_sound scope (Some x) count at m l = length_by_sound scope x count at (constant_of x) m l

length_sound : (scope : Scope) (it : Declarator) (m : Marks) → Sound (IsCount it) (length_of it scope m)
unfolding length_of
length_sound scope (declarator.Scalar name initial) m l = tt
length_sound scope (declarator.Array name bracket size initial) m l = array_sound scope size (count_of initial) name.at m l

-- ---- objects

-- what the reading of declarations at file scope gives
pub record FileReads (v w : Work) : Type 0 where
  pub grows : Proceeds v w
  pub scope : w.scope ≡ v.scope
  pub loops : w.marks.loops ≡ v.marks.loops
  pub fits : w.marks.least ≡ None → All ObjectFits v.objects → All ObjectFits w.objects

pub file_none : (v : Work) → FileReads v v
file_none v = record { grows = stays v; scope = refl; loops = refl; fits = λ l a. a }

pub file_then : {u v w : Work} → FileReads u v → FileReads v w → FileReads u w
file_then h k = record {
  grows = proceeds_then h.grows k.grows;
  scope = k.scope ∙ h.scope;
  loops = k.loops ∙ h.loops;
  fits = λ l a. k.fits l (h.fits ((k.grows).least l) a);
}

noted_by : (b : Bool) (at : Position) (v : Work) → FileReads v (cond b v (tell (TooMany Objects) at v))
noted_by true at v = file_none v
noted_by false at v = record { grows = marked v _ (noted_grows (TooMany Objects) at v.marks); scope = refl; loops = refl; fits = λ l a. a }

pushed : (x : ObjectInfo) (v : Work) → (v.marks.least ≡ None → ObjectFits x) → FileReads v (with_object x v).1
pushed x v f = record {
  grows = record {
    sites = λ k it e. e;
    loops = λ k it e. e;
    object_addresses = λ k e. e;
    local_addresses = λ k e. e;
    calls = omega arith;
    least = λ e. e;
    locals = λ k it e. e;
    objects = λ k it e. get_front v.objects (x ∷ []) k it e;
    object_count = omega (arith, length-append v.objects (x ∷ []));
    scope = (stays v).scope;
  };
  scope = refl;
  loops = refl;
  fits = λ l a. All-push ObjectFits v.objects x a (f l);
}

made : (at : Position) (x : ObjectInfo) (v : Work) → (v.marks.least ≡ None → ObjectFits x) → FileReads v (make_object at x v).1
unfolding make_object
made at x v f =
    let n = noted_by (nat_lt (length v.objects) 512) at v in
    file_then n (pushed x (noted_object at v) (λ l. f ((n.grows).least l)))

pub object_read : (width : Width) (is_const : Bool) (it : Declarator) → IsPlainDeclarator it → (v : Work) → FileReads v (object width is_const it v).1
unfolding object
object_read width is_const it q v =
    let name = name_of it in
    let c = within (length_of it) v in
    let n = within (constants_of width it) c.1 in
    let gc = length_grows v.scope it v.marks in
    let gn = constants_of_grow width v.scope it (c.1).marks in
    let first : FileReads v c.1 = record { grows = marked v _ gc; scope = refl; loops = gc.loops; fits = λ l a. a } in
    let second : FileReads c.1 n.1 = record { grows = marked c.1 _ gn; scope = refl; loops = gn.loops; fits = λ l a. a } in
    file_then first (file_then second (made name.at (info name.name width is_const c.0 n.0) n.1
    (λ l.
    let numbers = numbers_sound v.scope width it q (c.1).marks l in
    lengths.objects_fit name.name width is_const c.0 n.0 (lengths_agree it c.0 n.0 (length_sound v.scope it v.marks (gn.least l)) numbers.1) numbers.0)))
