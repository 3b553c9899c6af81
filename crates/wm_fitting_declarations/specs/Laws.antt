-- The laws.
use Rattle.std.specs.Prelude.{◌≤◌, ℕ, Bool}
use Rattle.wm_lang.specs.declared.statement.Declaration.{Declaration}
use Rattle.wm_lang.specs.declared.statement.Declarator.{Declarator}
use Rattle.wm_ops.specs.declared.operators.Width.{Width}
use Rattle.wm_program.specs.Trees.{tree_of}
use Rattle.wm_program.specs.WellFormed.{FitsTree}
use Rattle.wm_body.specs.declared.work.Work.{Work}
use Rattle.wm_body.specs.Declarations.{object, declaration}
use Rattle.wm_fitting_declarations.specs.PlainDeclarations.{IsPlainDeclarator, IsPlainDeclaration}
use Rattle.wm_fitting_declarations.specs.Works.{Home, Reads}

-- a declaration in a block, of automatic variables or of objects of static storage
abbrev pub DeclarationsFit : Type 0
DeclarationsFit =
    (H : Home) → H.routine.parameters ≤ H.least → (it : Declaration) → IsPlainDeclaration it → (inside : Bool) (v : Work)
    → Reads H (Unit {0}) (λ statement. FitsTree H.code H.routine H.function (tree_of statement) inside) v (declaration it v)

-- an object of file scope
abbrev pub FileObjectsFit : Type 0
FileObjectsFit =
    (H : Home) (width : Width) (is_const : Bool) (it : Declarator) → IsPlainDeclarator it → (v : Work)
    → Reads {A = ℕ} H (Unit {0}) (λ number. Unit {0}) v (object width is_const it v)
