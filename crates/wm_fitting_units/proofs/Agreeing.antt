-- What is declared is made, at the same numbers.
use Rattle.std.proofs.Common.{◌≡◌, ℕ, ◌≤◌, Bool, true, false, cond, List, [], ◌∷◌, ◌++◌, length, ℤ, Option, Some, None, refl, sym, ap, subst, ◌∙◌, length-append, arith}
use Rattle.std.proofs.lemmas.List.Elements.{All-head, All-tail, All-weaker}
use Rattle.std.specs.List.{All}
use Rattle.std.specs.Prelude.{IsSomeAnd, is_some, nat_lt, slice_get}
use Rattle.wm_lang.specs.declared.place.Position.{Position}
use Rattle.wm_lang.specs.declared.statement.Block.{Block}
use Rattle.wm_lang.specs.declared.statement.Declarator.{Declarator}
use Rattle.wm_lang.specs.declared.statement.Declarator.TheVariants as declarator
use Rattle.wm_lang.specs.declared.statement.Statement.{Statement}
use Rattle.wm_lang.specs.declared.unit.Function.{Function}
use Rattle.wm_lang.specs.declared.unit.Item.{Item}
use Rattle.wm_lang.specs.declared.unit.Item.TheVariants as forms
use Rattle.wm_ops.specs.declared.operators.Width.{Width}
use Rattle.wm_program.specs.declared.faults.What.TheVariants.{Functions}
use Rattle.wm_program.specs.declared.program.ObjectInfo.{ObjectInfo}
use Rattle.wm_program.specs.declared.tree.Array.{Array}
use Rattle.wm_program.specs.declared.tree.Array.TheVariants as array
use Rattle.wm_program.specs.declared.tree.Scalar.{Scalar}
use Rattle.wm_program.specs.declared.tree.Scalar.TheVariants as scalar
use Rattle.wm_program.specs.Code.{Code}
use Rattle.wm_scope.specs.declared.fault.TokenFault.TheVariants.{TooMany}
use Rattle.wm_scope.specs.declared.meaning.Meaning.{Meaning}
use Rattle.wm_scope.specs.declared.meaning.Meaning.TheVariants as meaning
use Rattle.wm_scope.specs.declared.meaning.Named.{Named}
use Rattle.wm_scope.specs.declared.scope.Scope.{Scope}
use Rattle.wm_scope.specs.declared.scope.Signature.{Signature}
use Rattle.wm_source.specs.Constants.{width_of}
use Rattle.wm_source.specs.Pieces.{written_items}
use Rattle.wm_marks.specs.declared.marks.Marks.{Marks}
use Rattle.wm_body.specs.declared.work.Work.{Work}
use Rattle.wm_body.specs.Declarations.{name_of, length_of, constants_of, info, object_meaning, object}
use Rattle.wm_body.specs.Works.{within}
use Rattle.wm_reading.specs.declared.outline.Outline.{Outline}
use Rattle.wm_reading.specs.declared.unit.Pass.{Pass}
use Rattle.wm_reading.specs.Functions.{function as function_in}
use Rattle.wm_reading.specs.Outlines as outlines
use Rattle.wm_reading.specs.Reading as pass
use Rattle.wm_reading.specs.Statics.{statics_of}
use Rattle.wm_fitting.proofs.Collecting.{get_front, get_seam}
use Rattle.wm_fitting_functions.proofs.Functions.{functions_fit}
use Rattle.wm_fitting_statics.proofs.Counting.{functions_count}
use Rattle.wm_fitting_statics.proofs.Keeping.{object_made}
use Rattle.wm_fitting_units.specs.Passes.{IsPlainBody, IsPlainItem, IsObject, IsScalarMeant, IsArrayMeant, IsMeant, IsSigned, Agrees}
use Rattle.wm_fitting_units.proofs.Lists.{push_two}
use Rattle.wm_fitting_units.proofs.Outlining.{Declares, declares}

-- ---- what is meant stays so while objects and functions are added

abbrev Starts : List ObjectInfo → List ObjectInfo → Type 0
Starts xs ys = (k : ℕ) (x : ObjectInfo) → slice_get xs k ≡ Some x → slice_get ys k ≡ Some x

has_by : (xs ys : List ObjectInfo) → Starts xs ys → (P : ObjectInfo → Type 0) (k : ℕ) (o : Option ObjectInfo) → slice_get xs k ≡ o → IsSomeAnd o P → IsSomeAnd (slice_get ys k) P
has_by xs ys h P k None e s = absurd s
has_by xs ys h P k (Some x) e s = subst (λ o. IsSomeAnd o P) (sym (h k x e)) s

scalar_grows : (xs ys : List ObjectInfo) → Starts xs ys → (it : Scalar) (width : Width) (is_const : Bool) → IsScalarMeant xs it width is_const → IsScalarMeant ys it width is_const
scalar_grows xs ys h scalar.Overflow width is_const m = m
scalar_grows xs ys h (scalar.Object object) width is_const m = has_by xs ys h (IsObject width is_const false) object (slice_get xs object) refl m
scalar_grows xs ys h (scalar.Local local) width is_const m = m

array_grows : (xs ys : List ObjectInfo) → Starts xs ys → (it : Array) (width : Width) (is_const : Bool) → IsArrayMeant xs it width is_const → IsArrayMeant ys it width is_const
array_grows xs ys h (array.Object object) width is_const m = has_by xs ys h (IsObject width is_const true) object (slice_get xs object) refl m
array_grows xs ys h (array.Local local) width is_const m = m
array_grows xs ys h (array.View local number) width is_const m = m

meant_grows : (xs ys : List ObjectInfo) → Starts xs ys → (m n : ℕ) → m ≤ n → (g : Meaning) → IsMeant xs m g → IsMeant ys n g
meant_grows xs ys h m n l (meaning.Operator op) f = f
meant_grows xs ys h m n l (meaning.Counting call) f = f
meant_grows xs ys h m n l (meaning.Function function) f = omega (arith, l, f)
meant_grows xs ys h m n l (meaning.Scalar it width is_const) f = scalar_grows xs ys h it width is_const f
meant_grows xs ys h m n l (meaning.Array it width is_const) f = array_grows xs ys h it width is_const f
meant_grows xs ys h m n l meaning.Nothing f = f

all_grow : (xs ys : List ObjectInfo) → Starts xs ys → (m n : ℕ) → m ≤ n → (names : List Named) → All (λ named. IsMeant xs m named.meaning) names → All (λ named. IsMeant ys n named.meaning) names
all_grow xs ys h m n l names a = All-weaker (λ named. IsMeant xs m named.meaning) (λ named. IsMeant ys n named.meaning) (λ named f. meant_grows xs ys h m n l named.meaning f) names a

-- ---- objects

object_is : (name : List ℕ) (width : Width) (is_const : Bool) (count : Option ℕ) (numbers : List ℤ) → IsObject width is_const (is_some count) (info name width is_const count numbers)
object_is name width is_const None numbers = record { width_told = refl; const_told = refl; scalar_told = refl }
object_is name width is_const (Some count) numbers = record { width_told = refl; const_told = refl; scalar_told = refl }

is_counted : (it : Declarator) (scope : Scope) (m : Marks) → is_some (length_of it scope m).0 ≡ outlines.is_array it
unfolding length_of
is_counted (declarator.Scalar name initial) scope m = refl
is_counted (declarator.Array name bracket size initial) scope m = refl

pub made_so : (width : Width) (is_const : Bool) (it : Declarator) (v : Work) → (x : ObjectInfo) × ((object width is_const it v).1.objects ≡ v.objects ++ x ∷ []) × IsObject width is_const (outlines.is_array it) x
unfolding object
made_so width is_const it v =
    let c = within (length_of it) v in
    let n = within (constants_of width it) c.1 in
    let x = info (name_of it).name width is_const c.0 n.0 in
    (x, object_made (name_of it).at x n.1, subst (λ b. IsObject width is_const b x) (is_counted it v.scope v.marks) (object_is (name_of it).name width is_const c.0 n.0))

object_meant : (objects : List ObjectInfo) (count number : ℕ) (width : Width) (is_const is_array : Bool) → IsSomeAnd (slice_get objects number) (IsObject width is_const is_array) → IsMeant objects count (object_meaning number width is_const is_array)
object_meant objects count number width is_const true h = h
object_meant objects count number width is_const false h = h

with_object : (o n : Outline) (p : Pass) (it : Declarator) (width : Width) (is_const : Bool) (w : Work) (x : ObjectInfo) → Agrees o p
    → Declares (name_of it) (object_meaning o.objects width is_const (outlines.is_array it)) (outlines.counted o) n
    → w.objects ≡ p.work.objects ++ x ∷ [] → IsObject width is_const (outlines.is_array it) x → Agrees n (record p { work = w })
with_object o n p it width is_const w x a d e h =
    let there : slice_get w.objects o.objects ≡ Some x = subst (λ k. slice_get w.objects k ≡ Some x) (sym a.objects) (subst (λ ys. slice_get ys (length p.work.objects) ≡ Some x) (sym e) (get_seam p.work.objects x [])) in
    record {
      objects = d.objects ∙ omega (arith, a.objects, ap length e, length-append p.work.objects (x ∷ []));
      functions = ap length d.signatures ∙ a.functions;
      signatures = λ k s i f g. a.signatures k s i (subst (λ ss. slice_get ss k ≡ Some s) d.signatures f) g;
      names =
          d.file (λ named. IsMeant w.objects (length p.functions) named.meaning)
          (all_grow p.work.objects w.objects (λ k y g. subst (λ ys. slice_get ys k ≡ Some y) (sym e) (get_front p.work.objects (x ∷ []) k y g)) (length p.functions) (length p.functions) (omega arith) o.work.scope.file a.names)
          (object_meant w.objects (length p.functions) o.objects width is_const (outlines.is_array it)
          (subst (λ g. IsSomeAnd g (IsObject width is_const (outlines.is_array it))) (sym there) h));
    }

object_agrees : (b : Bool) (width : Width) (is_const : Bool) (it : Declarator) (o : Outline) (p : Pass) → Agrees o p
    → Agrees (outlines.object_where b width is_const it o).1 (record p { work = (pass.declared_where b width is_const it p.work).1 })
unfolding outlines.object_where outlines.object
object_agrees true width is_const it o p a =
    let x = made_so width is_const it p.work in
    with_object o (outlines.declare (name_of it) (object_meaning o.objects width is_const (outlines.is_array it)) (outlines.counted o)).1 p it width is_const (object width is_const it p.work).1 x.0 a
    (declares (name_of it) (object_meaning o.objects width is_const (outlines.is_array it)) (outlines.counted o)) x.1 x.2
object_agrees false width is_const it o p a = a

objects_agree : (is_extern : Bool) (width : Width) (is_const : Bool) (its : List Declarator) (o : Outline) (p : Pass) → Agrees o p
    → Agrees (outlines.all_objects is_extern width is_const its o).1 (record p { work = (pass.all_declared is_extern width is_const its p.work).1 })
unfolding pass.declared
objects_agree is_extern width is_const [] o p a = a
objects_agree is_extern width is_const (it ∷ rest) o p a =
    objects_agree is_extern width is_const rest (outlines.object_where (outlines.makes is_extern it) width is_const it o).1
    (record p { work = (pass.declared_where (outlines.makes is_extern it) width is_const it p.work).1 })
    (object_agrees (outlines.makes is_extern it) width is_const it o p a)

-- ---- functions

noted_agrees_by : (b : Bool) (at : Position) (o : Outline) (p : Pass) → Agrees o p → Agrees (cond b o (outlines.told (TooMany Functions) at o)) p
noted_agrees_by true at o p a = a
noted_agrees_by false at o p a = record { objects = a.objects; functions = a.functions; signatures = a.signatures; names = a.names }

noted_agrees : (at : Position) (o : Outline) (p : Pass) → Agrees o p → Agrees (outlines.noted_function at o) p
unfolding outlines.noted_function
noted_agrees at o p a = noted_agrees_by (nat_lt (length o.work.scope.signatures) 1024) at o p a

abbrev signature_of : Function → Signature
signature_of it = record { result = outlines.maybe_width it.result; slots = outlines.slots_of it.parameters }

-- any program: what is told of a function's call does not depend on it
abbrev no_code : Code
no_code = record { routines = []; objects = []; sites = []; loops = []; instances = []; inputs = []; init = None; frame = 0 }

function_agrees_by : (offsets : List (List ℕ)) (it : Function) (body : Option (Block Statement)) → IsPlainBody it body → (o : Outline) (p : Pass) → Agrees o p
    → Agrees (outlines.function_by it body o).1 (pass.function_by offsets it body p).1
function_agrees_by offsets it None q o p a = a
function_agrees_by offsets it (Some block) q o p a =
    let n = outlines.noted_function it.name.at o in
    let b = noted_agrees it.name.at o p a in
    let g = meaning.Function (length n.work.scope.signatures) in
    let d = declares it.name g (outlines.signed it block n) in
    let k = length p.functions in
    let its = pass.offsets_at k offsets in
    let r = function_in k its it block p.work in
    let f = functions_fit no_code 0 k its it block q p.work in
    let longer = length-append p.functions (r.0 ∷ []) in
    record {
      objects = d.objects ∙ (ap (statics_of (written_items block.items)) b.objects ∙ sym (functions_count k its it block p.work));
      functions = ap length d.signatures ∙ omega (arith, b.functions, longer, length-append n.work.scope.signatures (signature_of it ∷ []));
      signatures = λ i s x e h.
          push_two IsSigned n.work.scope.signatures p.functions (signature_of it) r.0 b.functions b.signatures (record { result = f.result; slots = f.slots }) i s x
          (subst (λ ss. slice_get ss i ≡ Some s) d.signatures e) h;
      names =
          d.file (λ named. IsMeant (r.1).objects (length (p.functions ++ r.0 ∷ [])) named.meaning)
          (all_grow p.work.objects (r.1).objects (f.grows).objects k (length (p.functions ++ r.0 ∷ [])) (omega (arith, longer)) n.work.scope.file b.names)
          (omega (arith, longer, b.functions));
    }

item_agrees : (offsets : List (List ℕ)) (it : Item) → IsPlainItem it → (o : Outline) (p : Pass) → Agrees o p → Agrees (outlines.item it o).1 (pass.item offsets it p).1
unfolding outlines.item outlines.objects_of outlines.function pass.item pass.declaration pass.function
item_agrees offsets (forms.Objects it) q o p a = objects_agree it.words.is_extern (width_of it.base) it.words.is_const it.declarators o p a
item_agrees offsets (forms.Function it) q o p a = function_agrees_by offsets it it.body q o p a
item_agrees offsets (forms.Struct it) q o p a = a
item_agrees offsets (forms.StructObjects it) q o p a = a

pub items_agree : (offsets : List (List ℕ)) (its : List Item) → All IsPlainItem its → (o : Outline) (p : Pass) → Agrees o p → Agrees (outlines.items its o).1 (pass.items offsets its p).1
items_agree offsets [] q o p a = a
items_agree offsets (it ∷ rest) q o p a =
    items_agree offsets rest (All-tail IsPlainItem it rest q) (outlines.item it o).1 (pass.item offsets it p).1
    (item_agrees offsets it (All-head IsPlainItem it rest q) o p a)
