-- Automatic variables.
use Rattle.std.proofs.Common.{◌≡◌, ℕ, ◌≤◌, Bool, false, Option, Some, None, refl, subst, ◌∙◌, arith}
use Rattle.std.specs.Prelude.{IsSomeAnd, slice_get}
use Rattle.wm_lang.specs.declared.statement.Declarator.{Declarator}
use Rattle.wm_ops.specs.declared.operators.Width.{Width}
use Rattle.wm_program.specs.declared.program.LocalInfo.{LocalInfo}
use Rattle.wm_program.specs.Trees.{fresh_of}
use Rattle.wm_program.specs.WellFormed.{FitsFresh}
use Rattle.wm_scope.specs.declared.meaning.Meaning.TheVariants as meaning
use Rattle.wm_body.specs.declared.work.Work.{Work}
use Rattle.wm_body.specs.Declarations.{name_of, length_of, local_meaning, fresh, automatic}
use Rattle.wm_body.specs.Works.{within, checked, declare, make_local}
use Rattle.wm_fitting.specs.Fitting.{Setting, MeaningFits}
use Rattle.wm_fitting_scopes.proofs.Meanings.{locals_fit}
use Rattle.wm_fitting_declarations.specs.PlainDeclarations.{IsPlainDeclarator}
use Rattle.wm_fitting_declarations.specs.Works.{Home, seen, LikeLocal, Reads}
use Rattle.wm_fitting_declarations.proofs.Stepping.{gives, then_reads, within_reads}
use Rattle.wm_fitting_declarations.proofs.Making.{check_reads, declare_reads, made_local, make_local_reads}
use Rattle.wm_fitting_declarations.proofs.Parts.{IsCount, length_grows, length_fits, fresh_grows, fresh_fits}

meaning_by : (S : Setting) (local : ℕ) (info : LocalInfo) → info.view ≡ false → (is_const : Bool) (o : Option LocalInfo) → slice_get S.routine.locals local ≡ o → IsSomeAnd o (LikeLocal info) → MeaningFits S (local_meaning local info.width is_const info.array)
meaning_by S local info v is_const None e h = absurd h
meaning_by S local info v is_const (Some it) e h =
    subst (λ w. MeaningFits S (local_meaning local w is_const info.array)) h.width
    (subst (λ a. MeaningFits S (local_meaning local it.width is_const a)) h.array (locals_fit S local it e (h.view ∙ v) is_const))

-- what the name of a made variable means
pub meaning_fits : (S : Setting) (local : ℕ) (info : LocalInfo) → info.view ≡ false → (is_const : Bool) → IsSomeAnd (slice_get S.routine.locals local) (LikeLocal info) → MeaningFits S (local_meaning local info.width is_const info.array)
meaning_fits S local info v is_const h = meaning_by S local info v is_const (slice_get S.routine.locals local) refl h

pub length_reads : {H : Home} {P : Type 0} (it : Declarator) → IsPlainDeclarator it → (v : Work) → Reads H P (IsCount it) v (within (length_of it) v)
length_reads {H = H} it q v =
    within_reads (length_of it) (length_grows v.scope it v.marks) (λ p i. length_fits (seen H v.scope) i.names it q v.marks)

pub automatic_reads : {H : Home} {P : Type 0} → H.routine.parameters ≤ H.least → (width : Width) (is_const : Bool) (it : Declarator) → IsPlainDeclarator it → (v : Work)
    → Reads H P (λ made. FitsFresh H.code H.routine (fresh_of made)) v (automatic width is_const it v)
unfolding automatic
automatic_reads {H = H} b width is_const it q v =
    let name = name_of it in
    let c = within (length_of it) v in
    let count = c.0 in
    let w = checked name c.1 in
    let l = make_local name width count false w in
    let n = declare name meaning.Nothing l.1 in
    let info = made_local name width count false in
    let f = within (fresh l.0 width count it) n.1 in
    then_reads (length_reads it q v) (then_reads (check_reads name c.1) (then_reads (make_local_reads name width count false w (λ e. refl))
    (then_reads (declare_reads name meaning.Nothing l.1 (λ p. tt))
    (then_reads (within_reads (fresh l.0 width count it) (fresh_grows (n.1).scope l.0 width count it (n.1).marks)
    (λ p i. fresh_fits (seen H (n.1).scope) i.names l.0 width count info
    (record { width_told = refl; array_told = refl; no_view = refl; behind = omega (arith, b, p.0.1.0); there = p.0.1.1 }) it q p.0.0.0.1 (n.1).marks))
    (then_reads (declare_reads name (local_meaning l.0 width is_const count) f.1 (λ p. meaning_fits (seen H (f.1).scope) l.0 info refl is_const p.0.0.1.1))
    (gives (λ p. p.0.1)))))))
