-- Statements.
use Rattle.std.proofs.Common.{◌≡◌, ℕ, ◌≤◌, Bool, true, not, List, [], ◌∷◌, ◌++◌, refl, sym, subst, arith}
use Rattle.std.proofs.lemmas.List.Elements.{All-nil, All-push}
use Rattle.std.specs.List.{All}
use Rattle.std.specs.Prelude.{IsTrue, map, ◌==◌}
use Rattle.wm_lang.specs.declared.place.Position.{Position}
use Rattle.wm_program.specs.declared.tree.Statement.{Statement}
use Rattle.wm_program.specs.Tree as tree
use Rattle.wm_program.specs.Trees.{all_of, tree_of}
use Rattle.wm_program.specs.WellFormed.{FitsTree}
use Rattle.wm_scope.specs.declared.fault.TokenFault.TheVariants.{BreakOutside}
use Rattle.wm_source.specs.Pieces.{Piece, Block, Empty, Act, If, IfElse, For, While, Do, Break, Continue, Return, Pieces, Done, Declare, Then}
use Rattle.wm_source.specs.Steps.{step_of}
use Rattle.wm_value.specs.Needs.{condition_in}
use Rattle.wm_body.specs.declared.work.Work.{Work}
use Rattle.wm_body.specs.Declarations.{declaration}
use Rattle.wm_body.specs.Simples.{all_simple}
use Rattle.wm_body.specs.Statements.{tested, leaping, statement_in, pieces_in}
use Rattle.wm_body.specs.Works.{within, make_loop, leapt, deeper, entered}
use Rattle.wm_fitting_declarations.specs.Works.{Home, Reads}
use Rattle.wm_fitting_declarations.proofs.Stepping.{gives, then_reads, reads_also, tells_where}
use Rattle.wm_fitting_declarations.proofs.Declaring.{declarations_fit}
use Rattle.wm_fitting_statements.specs.Laws.{is_inside}
use Rattle.wm_fitting_statements.specs.PlainPieces.{IsPlainPiece, ArePlainPieces}
use Rattle.wm_fitting_statements.proofs.Forms.{of_empty, of_simple, of_if, of_if_else, of_for, of_while, of_do, of_break, of_continue}
use Rattle.wm_fitting_statements.proofs.Blocks.{Fits, all_fit, block_reads, block_fits}
use Rattle.wm_fitting_statements.proofs.Parts.{simple_reads, acts_read, condition_reads, test_reads, return_reads, loop_reads, deep}
use Rattle.wm_fitting_statements.proofs.Steps.{steps_fit}

-- a statement whose plain tree is known
known : (H : Home) (b : Bool) (it : Statement) (t : tree.Tree) → tree_of it ≡ t → FitsTree H.code H.routine H.function t b → Fits H b it
known H b it t e f = subst (λ t. FitsTree H.code H.routine H.function t b) (sym e) f

leap_reads : {H : Home} {P : Type 0} (at : Position) (depth : ℕ) (v : Work) → Reads {A = Unit {0}} H P (λ u. IsTrue (is_inside depth)) v (leaping at depth v)
unfolding leapt
leap_reads at depth v = reads_also (tells_where (depth == 0) BreakOutside at v) (λ u p e. subst (λ b. IsTrue (not b)) (sym e) refl)

looped : (H : Home) (depth : ℕ) (it : Statement) → Fits H (is_inside (deeper depth)) it → Fits H true it
looped H depth it f = subst (λ b. Fits H b it) (deep depth) f

mutual
  pub statement_reads : {H : Home} → H.routine.parameters ≤ H.least → (depth : ℕ) (piece : Piece) → IsPlainPiece piece → {P : Type 0} (v : Work) → Reads H P (Fits H (is_inside depth)) v (statement_in depth piece v)
  statement_reads {H = H} b depth (Block first pieces last) q v =
      block_reads v (pieces_in depth [] pieces (entered v)) (block_fits H (is_inside depth))
      (reads_also (pieces_read b depth [] pieces q (entered v)) (λ its p k. all_fit H (is_inside depth) its (k (All-nil (Fits H (is_inside depth))))))
  statement_reads {H = H} b depth Empty q v = gives (λ p. known H (is_inside depth) _ _ of_empty tt)
  statement_reads {H = H} b depth (Act act) q v =
      then_reads (simple_reads act q v) (gives (λ p. known H (is_inside depth) _ _ (of_simple _) p.1))
  statement_reads {H = H} b depth (If word condition body) q v =
      let test = within (λ scope. condition_in scope condition) v in
      then_reads (condition_reads condition q.0 v) (then_reads (statement_reads b depth body q.1 test.1)
      (gives (λ p. known H (is_inside depth) _ _ (of_if word.is_counted _ _) (p.0.1, p.1))))
  statement_reads {H = H} b depth (IfElse word condition body other otherwise) q v =
      let test = within (λ scope. condition_in scope condition) v in
      let first = statement_in depth body test.1 in
      then_reads (condition_reads condition q.0 v) (then_reads (statement_reads b depth body q.1 test.1)
      (then_reads (statement_reads b depth otherwise q.2 first.1)
      (gives (λ p. known H (is_inside depth) _ _ (of_if_else word.is_counted _ _ _) (p.0.0.1, p.0.1, p.1)))))
  statement_reads {H = H} b depth (For word begin condition step body) q v =
      let number = make_loop word.at (step_of step) depth v in
      let first = within (λ scope. all_simple scope [] begin) number.1 in
      let test = within (tested condition) first.1 in
      let last = within (λ scope. all_simple scope [] step) test.1 in
      then_reads (loop_reads word.at (step_of step) depth v (steps_fit step)) (then_reads (acts_read begin q.0 number.1)
      (then_reads (test_reads condition q.1 first.1) (then_reads (acts_read step q.2 test.1)
      (then_reads (statement_reads b (deeper depth) body q.3 last.1)
      (gives (λ p. known H (is_inside depth) _ _ (of_for word.is_counted _ _ _ _ _) (p.0.0.0.0.1, p.0.0.0.1, p.0.0.1, p.0.1, looped H depth _ p.1)))))))
  statement_reads {H = H} b depth (While word condition body) q v =
      let number = make_loop word.at 1 depth v in
      let test = within (λ scope. condition_in scope condition) number.1 in
      then_reads (loop_reads word.at 1 depth v (omega arith, omega arith)) (then_reads (condition_reads condition q.0 number.1)
      (then_reads (statement_reads b (deeper depth) body q.1 test.1)
      (gives (λ p. known H (is_inside depth) _ _ (of_while word.is_counted _ _ _) (p.0.0.1, p.0.1, looped H depth _ p.1)))))
  statement_reads {H = H} b depth (Do word body tail condition) q v =
      let number = make_loop word.at 1 depth v in
      let inner = statement_in (deeper depth) body number.1 in
      then_reads (loop_reads word.at 1 depth v (omega arith, omega arith)) (then_reads (statement_reads b (deeper depth) body q.0 number.1)
      (then_reads (condition_reads condition q.1 inner.1)
      (gives (λ p. known H (is_inside depth) _ _ (of_do word.is_counted tail.is_counted _ _ _) (p.0.0.1, looped H depth _ p.0.1, p.1)))))
  statement_reads {H = H} b depth (Break word) q v = then_reads (leap_reads word.at depth v) (gives (λ p. known H (is_inside depth) _ _ (of_break word.is_counted) p.1))
  statement_reads {H = H} b depth (Continue word) q v = then_reads (leap_reads word.at depth v) (gives (λ p. known H (is_inside depth) _ _ (of_continue word.is_counted) p.1))
  statement_reads {H = H} b depth (Return at value) q v = return_reads value q at (is_inside depth) v

  pub pieces_read : {H : Home} → H.routine.parameters ≤ H.least → (depth : ℕ) (found : List Statement) (pieces : Pieces) → ArePlainPieces pieces → {P : Type 0} (v : Work)
      → Reads H P (λ its. All (Fits H (is_inside depth)) found → All (Fits H (is_inside depth)) its) v (pieces_in depth found pieces v)
  pieces_read b depth found Done q v = gives (λ p a. a)
  pieces_read {H = H} b depth found (Declare it rest) q v =
      let x = declaration it v in
      then_reads (declarations_fit H b _ it q.0 (is_inside depth) v)
      (reads_also (pieces_read b depth (found ++ x.0 ∷ []) rest q.1 x.1) (λ its p k a. k (All-push (Fits H (is_inside depth)) found x.0 a p.1)))
  pieces_read {H = H} b depth found (Then piece rest) q v =
      let x = statement_in depth piece v in
      then_reads (statement_reads b depth piece q.0 v)
      (reads_also (pieces_read b depth (found ++ x.0 ∷ []) rest q.1 x.1) (λ its p k a. k (All-push (Fits H (is_inside depth)) found x.0 a p.1)))

pub statements_fit : (H : Home) → H.routine.parameters ≤ H.least → (P : Type 0) (depth : ℕ) (piece : Piece) → IsPlainPiece piece → (v : Work) → Reads H P (Fits H (is_inside depth)) v (statement_in depth piece v)
statements_fit H b P depth piece q v = statement_reads b depth piece q v

pub blocks_fit : (H : Home) → H.routine.parameters ≤ H.least → (P : Type 0) (depth : ℕ) (pieces : Pieces) → ArePlainPieces pieces → (v : Work)
    → Reads H P (λ its. FitsTree H.code H.routine H.function (all_of (map tree_of its)) (is_inside depth)) v (pieces_in depth [] pieces v)
blocks_fit H b P depth pieces q v =
    reads_also (pieces_read b depth [] pieces q v) (λ its p k. all_fit H (is_inside depth) its (k (All-nil (Fits H (is_inside depth)))))
