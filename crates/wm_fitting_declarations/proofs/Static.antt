-- Objects of static storage.
use Rattle.std.proofs.Common.{◌≡◌, ℕ, ◌<◌, Bool, true, false, not, Option, Some, None, List, ℤ, refl, subst, ◌∙◌}
use Rattle.std.specs.List.{All}
use Rattle.std.specs.Prelude.{IsSomeAnd, is_some, slice_get}
use Rattle.wm_lang.specs.declared.expression.Identifier.{Identifier}
use Rattle.wm_lang.specs.declared.statement.Declarator.{Declarator}
use Rattle.wm_ops.specs.Arguments.{HasWidth}
use Rattle.wm_ops.specs.declared.operators.Width.{Width}
use Rattle.wm_program.specs.declared.program.ObjectInfo.{ObjectInfo}
use Rattle.wm_scope.specs.declared.meaning.Meaning.TheVariants as meaning
use Rattle.wm_body.specs.declared.work.Work.{Work}
use Rattle.wm_body.specs.Declarations.{name_of, length_of, constants_of, info, object_meaning, object, make_static, static_object}
use Rattle.wm_body.specs.Works.{within, checked, declare, make_object, static_name}
use Rattle.wm_fitting.specs.Fitting.{Setting, MeaningFits}
use Rattle.wm_fitting_parts.specs.Laws.{IsLength}
use Rattle.wm_fitting_parts.proofs.Lengths as lengths
use Rattle.wm_fitting_scopes.proofs.Meanings as meanings
use Rattle.wm_fitting_declarations.specs.PlainDeclarations.{IsPlainDeclarator}
use Rattle.wm_fitting_declarations.specs.Works.{Home, seen, LikeObject, Reads}
use Rattle.wm_fitting_declarations.proofs.Stepping.{then_reads, reads_also, within_reads}
use Rattle.wm_fitting_declarations.proofs.Making.{check_reads, declare_reads, make_object_reads}
use Rattle.wm_fitting_declarations.proofs.Parts.{AreNumbers, lengths_agree, constants_of_grow, constants_of_fit}
use Rattle.wm_fitting_declarations.proofs.Automatic.{length_reads}

constants_read : {H : Home} {P : Type 0} (width : Width) (it : Declarator) → IsPlainDeclarator it → (v : Work) → Reads H P (AreNumbers width it) v (within (constants_of width it) v)
constants_read {H = H} width it q v =
    within_reads (constants_of width it) (constants_of_grow width v.scope it v.marks) (λ p i. constants_of_fit (seen H v.scope) i.names width it q v.marks)

-- ---- what the name of an object means

array_meaning : (S : Setting) (object : ℕ) (info : ObjectInfo) (is_array : Bool) → info.scalar ≡ not is_array → object < S.own → (o : Option ObjectInfo) → slice_get S.code.objects object ≡ o → IsSomeAnd o (LikeObject info) → MeaningFits S (object_meaning object info.width info.constant is_array)
array_meaning S object info is_array s n None e h = absurd h
array_meaning S object info is_array s n (Some it) e h =
    subst (λ w. MeaningFits S (object_meaning object w info.constant is_array)) h.width
    (subst (λ c. MeaningFits S (object_meaning object it.width c is_array)) h.constant (meanings.objects_fit S object it e n is_array (h.scalar ∙ s)))

pub object_fits : (S : Setting) (object : ℕ) (info : ObjectInfo) (is_array : Bool) → info.scalar ≡ not is_array → object < S.own → IsSomeAnd (slice_get S.code.objects object) (LikeObject info) → MeaningFits S (object_meaning object info.width info.constant is_array)
object_fits S object info is_array s n h = array_meaning S object info is_array s n (slice_get S.code.objects object) refl h

info_fits : (S : Setting) (object : ℕ) (name : List ℕ) (width : Width) (is_const : Bool) (count : Option ℕ) (numbers : List ℤ) → object < S.own → IsSomeAnd (slice_get S.code.objects object) (LikeObject (info name width is_const count numbers)) → MeaningFits S (object_meaning object width is_const (is_some count))
info_fits S object name width is_const None numbers n h = object_fits S object (info name width is_const None numbers) false refl n h
info_fits S object name width is_const (Some count) numbers n h = object_fits S object (info name width is_const (Some count) numbers) true refl n h

-- ---- objects of file scope and of blocks

pub object_reads : {H : Home} {P : Type 0} (width : Width) (is_const : Bool) (it : Declarator) → IsPlainDeclarator it → (v : Work) → Reads {A = ℕ} H P (λ number. Unit {0}) v (object width is_const it v)
unfolding object
object_reads {H = H} width is_const it q v =
    let name = name_of it in
    let c = within (length_of it) v in
    let n = within (constants_of width it) c.1 in
    then_reads (length_reads it q v) (then_reads (constants_read width it q c.1)
    (reads_also (make_object_reads name.at (info name.name width is_const c.0 n.0) n.1
    (λ p. lengths.objects_fit name.name width is_const c.0 n.0 (lengths_agree it c.0 n.0 p.0.1 p.1.1) p.1.0))
    (λ number p h. tt)))

make_static_reads : {H : Home} {P : Type 0} (width : Width) (is_const : Bool) (name : Identifier) (count : Option ℕ) (numbers : List ℤ) (v : Work) → (P → IsLength count numbers × All (HasWidth width) numbers) → Reads {A = Unit {0}} H P (λ u. Unit {0}) v (make_static width is_const name count numbers v)
unfolding make_static
make_static_reads {H = H} width is_const name count numbers v f =
    let long = static_name v.name name.name in
    let o = make_object name.at (info long width is_const count numbers) v in
    then_reads (make_object_reads name.at (info long width is_const count numbers) v (λ p. let g = f p in lengths.objects_fit long width is_const count numbers g.0 g.1))
    (declare_reads name (object_meaning o.0 width is_const (is_some count)) o.1 (λ p. info_fits (seen H (o.1).scope) o.0 long width is_const count numbers p.1.0 p.1.1))

pub static_reads : {H : Home} {P : Type 0} (width : Width) (is_const : Bool) (it : Declarator) → IsPlainDeclarator it → (v : Work) → Reads {A = Unit {0}} H P (λ u. Unit {0}) v (static_object width is_const it v)
unfolding static_object
static_reads {H = H} width is_const it q v =
    let name = name_of it in
    let c = within (length_of it) v in
    let w = checked name c.1 in
    let d = declare name meaning.Nothing w in
    let n = within (constants_of width it) d.1 in
    then_reads (length_reads it q v) (then_reads (check_reads name c.1) (then_reads (declare_reads name meaning.Nothing w (λ p. tt))
    (then_reads (constants_read width it q d.1)
    (make_static_reads width is_const name c.0 n.0 n.1 (λ p. (lengths_agree it c.0 n.0 p.0.0.0.1 p.1.1, p.1.0))))))
