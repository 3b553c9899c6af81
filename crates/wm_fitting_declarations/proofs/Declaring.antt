-- Declarations in a block.
use Rattle.std.proofs.Common.{◌≡◌, ◌≤◌, Bool, true, false, Option, Some, None, List, [], ◌∷◌, sym, ap, subst, ◌∙◌}
use Rattle.std.proofs.lemmas.List.Elements.{All-nil, All-head, All-tail, All-push, All-map}
use Rattle.std.specs.List.{All}
use Rattle.std.specs.Prelude.{map}
use Rattle.wm_lang.specs.declared.statement.Declaration.{Declaration}
use Rattle.wm_lang.specs.declared.statement.Declarator.{Declarator}
use Rattle.wm_ops.specs.declared.operators.Width.{Width}
use Rattle.wm_program.specs.declared.tree.Declared.{Declared as Made}
use Rattle.wm_program.specs.declared.tree.Statement.TheOpen.{Statement-F}
use Rattle.wm_program.specs.declared.tree.Statement.TheFolds.{fold-roll-Statement}
use Rattle.wm_program.specs.declared.tree.Statement.TheVariants.{Declare, rolls-Declare}
use Rattle.wm_program.specs.Tree as tree
use Rattle.wm_program.specs.Trees.{fresh_of, tree_of, tree_step}
use Rattle.wm_program.specs.WellFormed.{FitsFresh, FitsTree}
use Rattle.wm_source.specs.Constants.{width_of}
use Rattle.wm_body.specs.declared.work.Work.{Work}
use Rattle.wm_body.specs.Declarations.{declared, kept, all_declared, declaration}
use Rattle.wm_fitting_declarations.specs.PlainDeclarations.{IsPlainDeclarator, IsPlainDeclaration}
use Rattle.wm_fitting_declarations.specs.Works.{Home, Reads}
use Rattle.wm_fitting_declarations.proofs.Stepping.{gives, then_reads, reads_also}
use Rattle.wm_fitting_declarations.proofs.Automatic.{automatic_reads}
use Rattle.wm_fitting_declarations.proofs.Static.{static_reads}

pub of_declare : (made : List Made) → tree_of (Declare made) ≡ tree.Declare (map fresh_of made)
of_declare made = ap tree_of (sym (rolls-Declare made)) ∙ fold-roll-Statement tree.Tree tree_step (Statement-F.Declare made)

abbrev Makes : Home → Made → Type 0
Makes H made = FitsFresh H.code H.routine (fresh_of made)

abbrev MakesOption : Home → Option Made → Type 0
MakesOption H None = Unit {0}
MakesOption H (Some made) = Makes H made

declared_reads : {H : Home} {P : Type 0} → H.routine.parameters ≤ H.least → (is_static : Bool) (width : Width) (is_const : Bool) (it : Declarator) → IsPlainDeclarator it → (v : Work) → Reads H P (MakesOption H) v (declared is_static width is_const it v)
unfolding declared
declared_reads b true width is_const it q v = then_reads (static_reads width is_const it q v) (gives (λ p. tt))
declared_reads b false width is_const it q v = then_reads (automatic_reads b width is_const it q v) (gives (λ p. p.1))

kept_fits : (H : Home) (found : List Made) (o : Option Made) → All (Makes H) found → MakesOption H o → All (Makes H) (kept found o)
kept_fits H found None a f = a
kept_fits H found (Some made) a f = All-push (Makes H) found made a f

all_read : {H : Home} → H.routine.parameters ≤ H.least → (is_static : Bool) (width : Width) (is_const : Bool) (found : List Made) (its : List Declarator) → All IsPlainDeclarator its → {P : Type 0} (v : Work)
    → Reads H P (λ all. All (Makes H) found → All (Makes H) all) v (all_declared is_static width is_const found its v)
all_read b is_static width is_const found [] q v = gives (λ p a. a)
all_read {H = H} b is_static width is_const found (it ∷ rest) q v =
    let x = declared is_static width is_const it v in
    then_reads (declared_reads b is_static width is_const it (All-head IsPlainDeclarator it rest q) v)
    (reads_also (all_read b is_static width is_const (kept found x.0) rest (All-tail IsPlainDeclarator it rest q) x.1)
    (λ all p k a. k (kept_fits H found x.0 a p.1)))

pub declarations_fit : (H : Home) → H.routine.parameters ≤ H.least → (P : Type 0) (it : Declaration) → IsPlainDeclaration it → (inside : Bool) (v : Work)
    → Reads H P (λ statement. FitsTree H.code H.routine H.function (tree_of statement) inside) v (declaration it v)
unfolding declaration
declarations_fit H b P it q inside v =
    then_reads (all_read b it.words.is_static (width_of it.base) it.words.is_const [] it.declarators q v)
    (gives (λ p. subst (λ t. FitsTree H.code H.routine H.function t inside) (sym (of_declare _))
    (All-map (FitsFresh H.code H.routine) fresh_of _ (p.1 (All-nil (Makes H))))))
