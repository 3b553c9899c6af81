-- A function with a result ends in a return.
use Rattle.std.proofs.Common.{◌≡◌, ℕ, ◌≤◌, Bool, true, false, ◌&&◌, cond, List, [], ◌∷◌, ◌++◌, map, Option, Some, None, sym, ap, subst, ◌∙◌}
use Rattle.std.specs.Prelude.{is_some}
use Rattle.wm_lang.specs.declared.expression.Expr.{Expr}
use Rattle.wm_lang.specs.declared.place.Position.{Position}
use Rattle.wm_ops.specs.declared.operators.Width.{Width}
use Rattle.wm_program.specs.declared.tree.Statement.{Statement}
use Rattle.wm_program.specs.Trees.{all_of, tree_of}
use Rattle.wm_program.specs.WellFormed.{ends_in_return}
use Rattle.wm_scope.specs.declared.scope.Scope.{Scope}
use Rattle.wm_source.specs.Endings.{ends_so, end_so}
use Rattle.wm_source.specs.Pieces.{Piece, Block, Empty, Act, If, IfElse, For, While, Do, Break, Continue, Return, Pieces, Done, Declare, Then}
use Rattle.wm_marks.specs.declared.marks.Marks.{Marks}
use Rattle.wm_value.specs.Needs.{condition_in}
use Rattle.wm_body.specs.declared.work.Work.{Work}
use Rattle.wm_body.specs.Declarations.{declaration}
use Rattle.wm_body.specs.Statements.{returned_value, returned, statement_in, pieces_in}
use Rattle.wm_body.specs.Works.{within, entered}
use Rattle.wm_fitting.proofs.Collecting.{some_none}
use Rattle.wm_fitting_parts.proofs.Returns.{of_return}
use Rattle.wm_fitting_growth_acts.proofs.Parts.{returns_grow}
use Rattle.wm_fitting_declarations.specs.Works.{Home, Reads}
use Rattle.wm_fitting_declarations.proofs.Stepping.{gives, then_reads, reads_also, within_reads}
use Rattle.wm_fitting_declarations.proofs.Declaring.{declarations_fit}
use Rattle.wm_fitting_statements.specs.Laws.{is_inside}
use Rattle.wm_fitting_statements.specs.PlainPieces.{IsPlainPiece, ArePlainPieces}
use Rattle.wm_fitting_statements.proofs.Forms.{of_block, of_if_else}
use Rattle.wm_fitting_statements.proofs.Blocks.{block_reads}
use Rattle.wm_fitting_statements.proofs.Parts.{condition_reads}
use Rattle.wm_fitting_statements.proofs.Stating.{statement_reads}

-- where the function has a result and what was written ends so, what it gives ends so
abbrev Ends : Home → Bool → Statement → Type 0
Ends H b it = is_some H.routine.result ≡ true → b ≡ true → ends_in_return (tree_of it) ≡ true

abbrev AllEnd : Home → Bool → List Statement → Type 0
AllEnd H b its = is_some H.routine.result ≡ true → b ≡ true → ends_in_return (all_of (map tree_of its)) ≡ true

never : {A : Type 0} → false ≡ true → A
never e = cc

ends_last : (found : List Statement) (x : Statement) → ends_in_return (tree_of x) ≡ true → ends_in_return (all_of (map tree_of (found ++ x ∷ []))) ≡ true
ends_last [] x e = e
ends_last (y ∷ []) x e = e
ends_last (y ∷ z ∷ found) x e = ends_last (z ∷ found) x e

both_end : (a b : Bool) → cond a b false ≡ true → (a ≡ true) × (b ≡ true)
both_end true b e = (cc, e)
both_end false b e = cc

two : (a b : Bool) → a ≡ true → b ≡ true → (a && b) ≡ true
two true b d e = e
two false b d e = d

return_ends : (value : Option Expr) (at : Position) (w : Option Width) (scope : Scope) (m : Marks) → (returned value at w scope m).1.least ≡ None → is_some w ≡ true → ends_in_return (tree_of (returned value at w scope m).0) ≡ true
unfolding returned returned_value
return_ends value at None scope m l r = cc
return_ends None at (Some width) scope m l r = absurd (some_none _ l)
return_ends (Some x) at (Some width) scope m l r = ap ends_in_return (of_return (Some _))

mutual
  statement_ends : {H : Home} → H.routine.parameters ≤ H.least → (depth : ℕ) (piece : Piece) → IsPlainPiece piece → {P : Type 0} (v : Work) → Reads H P (Ends H (ends_so piece)) v (statement_in depth piece v)
  statement_ends {H = H} b depth (Block first pieces last) q v =
      block_reads v (pieces_in depth [] pieces (entered v)) (λ its f r e. ap ends_in_return (of_block its) ∙ f (λ s d. never d) r e)
      (pieces_end b depth false [] pieces q (entered v))
  statement_ends b depth Empty q v = reads_also (statement_reads b depth Empty q v) (λ it p f r e. never e)
  statement_ends b depth (Act act) q v = reads_also (statement_reads b depth (Act act) q v) (λ it p f r e. never e)
  statement_ends b depth (If word condition body) q v = reads_also (statement_reads b depth (If word condition body) q v) (λ it p f r e. never e)
  statement_ends b depth (IfElse word condition body other otherwise) q v =
      let test = within (λ scope. condition_in scope condition) v in
      let first = statement_in depth body test.1 in
      then_reads (condition_reads condition q.0 v) (then_reads (statement_ends b depth body q.1 test.1)
      (then_reads (statement_ends b depth otherwise q.2 first.1)
      (gives (λ p r e.
      let g = both_end (ends_so body) (ends_so otherwise) e in
      ap ends_in_return (of_if_else word.is_counted _ _ _) ∙ two _ _ (p.0.1 r g.0) (p.1 r g.1)))))
  statement_ends b depth (For word begin condition step body) q v = reads_also (statement_reads b depth (For word begin condition step body) q v) (λ it p f r e. never e)
  statement_ends b depth (While word condition body) q v = reads_also (statement_reads b depth (While word condition body) q v) (λ it p f r e. never e)
  statement_ends b depth (Do word body tail condition) q v = reads_also (statement_reads b depth (Do word body tail condition) q v) (λ it p f r e. never e)
  statement_ends b depth (Break word) q v = reads_also (statement_reads b depth (Break word) q v) (λ it p f r e. never e)
  statement_ends b depth (Continue word) q v = reads_also (statement_reads b depth (Continue word) q v) (λ it p f r e. never e)
  statement_ends {H = H} b depth (Return at value) q v =
      let g = returns_grow v.scope value at v.result v.marks in
      within_reads (returned value at v.result) g
      (λ p i. record { grows = g; fits = λ l t r e. return_ends value at v.result v.scope v.marks l (subst (λ w. is_some w ≡ true) (sym i.result) r) })

  pieces_end : {H : Home} → H.routine.parameters ≤ H.least → (depth : ℕ) (before : Bool) (found : List Statement) (pieces : Pieces) → ArePlainPieces pieces → {P : Type 0} (v : Work)
      → Reads H P (λ its. AllEnd H before found → AllEnd H (end_so before pieces) its) v (pieces_in depth found pieces v)
  pieces_end b depth before found Done q v = gives (λ p f. f)
  pieces_end {H = H} b depth before found (Declare it rest) q v =
      let x = declaration it v in
      then_reads (declarations_fit H b _ it q.0 (is_inside depth) v)
      (reads_also (pieces_end b depth false (found ++ x.0 ∷ []) rest q.1 x.1) (λ its p k f. k (λ r e. never e)))
  pieces_end {H = H} b depth before found (Then piece rest) q v =
      let x = statement_in depth piece v in
      then_reads (statement_ends b depth piece q.0 v)
      (reads_also (pieces_end b depth (ends_so piece) (found ++ x.0 ∷ []) rest q.1 x.1) (λ its p k f. k (λ r e. ends_last found x.0 (p.1 r e))))

pub body_ends : {H : Home} {P : Type 0} → H.routine.parameters ≤ H.least → (pieces : Pieces) → ArePlainPieces pieces → (v : Work)
    → Reads H P (λ its. is_some H.routine.result ≡ true → end_so false pieces ≡ true → ends_in_return (all_of (map tree_of its)) ≡ true) v (pieces_in 0 [] pieces v)
body_ends b pieces q v = reads_also (pieces_end b 0 false [] pieces q v) (λ its p k. k (λ r e. never e))
