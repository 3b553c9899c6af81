-- Statements.
use Rattle.std.specs.Prelude.{ℕ, Bool, List, [], ◌∷◌, ◌++◌, Option, Some, None, false}
use Rattle.wm_lang.specs.declared.expression.Expr.{Expr}
use Rattle.wm_lang.specs.declared.place.Position.{Position}
use Rattle.wm_ops.specs.declared.operators.Width.{Width}
use Rattle.wm_program.specs.declared.tree.Condition.{Condition}
use Rattle.wm_program.specs.declared.tree.Otherwise.{Otherwise}
use Rattle.wm_program.specs.declared.tree.Statement.{Statement}
use Rattle.wm_program.specs.declared.tree.Statement.TheVariants as s
use Rattle.wm_scope.specs.declared.fault.TokenFault.TheVariants.{WrongKind}
use Rattle.wm_scope.specs.declared.scope.Scope.{Scope}
use Rattle.wm_source.specs.Pieces.{Piece, Block, Empty, Act, If, IfElse, For, While, Do, Break, Continue, Return, Pieces, Done, Declare, Then}
use Rattle.wm_source.specs.Reading.{source_of}
use Rattle.wm_source.specs.Steps.{step_of}
use Rattle.wm_marks.specs.Marking.{Step, Marking, ◌>>=◌, ◌>>◌, ◌<$>◌, pure, note}
use Rattle.wm_value.specs.Kinds.{wrong}
use Rattle.wm_value.specs.Needs.{number_in, condition_in}
use Rattle.wm_value.specs.Values.{value_in}
use Rattle.wm_value.specs.Widths.{narrowing_in}
use Rattle.wm_body.specs.declared.work.Work.{Work}
use Rattle.wm_body.specs.Declarations.{declaration}
use Rattle.wm_body.specs.Simples.{simple, all_simple}
use Rattle.wm_body.specs.Works.{within, change, make_loop, leapt, deeper, entered, quit}

unfoldable pub tested : Option Expr → Scope → Marking (Option Condition)
tested None scope = pure None
tested (Some expression) scope = Some <$> condition_in scope expression

unfoldable pub returned_value : Expr → Position → Option Width → Scope → Marking Statement
returned_value expression at (Some width) scope =
    narrowing_in scope (source_of expression) width at >>= λ narrowing.
    number_in scope expression >>= λ x. pure (s.Return (Some (record { value = x; narrowing = narrowing })))
returned_value expression at None scope =
    note WrongKind at >> (value_in scope false expression >>= λ dropped. pure (s.Return None))

abbrev pub left : Position → Option Width → Marking Statement
left at (Some width) = wrong (s.Return None) at
left at None = pure (s.Return None)

unfoldable pub returned : Option Expr → Position → Option Width → Scope → Marking Statement
returned None at width scope = left at width
returned (Some expression) at width scope = returned_value expression at width scope

abbrev pub leaping : Position → ℕ → Step Work (Unit {0})
leaping at depth = change (leapt at depth)

-- what stood in a block, whose scope is left
abbrev pub blocked : ℕ → List Statement × Work → Statement × Work
blocked outer (found, w) = (s.Block found, quit outer w)

abbrev mutual
  -- a statement with so many loops around it
  pub statement_in : ℕ → Piece → Step Work Statement
  statement_in depth (Block first pieces last) = λ w. blocked w.scope.outer (pieces_in depth [] pieces (entered w))
  statement_in depth Empty = pure s.Empty
  statement_in depth (Act act) = s.Simple <$> within (λ scope. simple scope act)
  statement_in depth (If word condition body) =
      within (λ scope. condition_in scope condition) >>= λ test. statement_in depth body >>= λ then_part.
      pure (s.If word.is_counted test then_part None)
  statement_in depth (IfElse word condition body other otherwise) =
      within (λ scope. condition_in scope condition) >>= λ test. statement_in depth body >>= λ then_part.
      statement_in depth otherwise >>= λ else_part.
      pure (s.If word.is_counted test then_part (Some (record { is_counted = other.is_counted; body = else_part })))
  statement_in depth (For word begin condition step body) =
      make_loop word.at (step_of step) depth >>= λ number. within (λ scope. all_simple scope [] begin) >>= λ first.
      within (tested condition) >>= λ test. within (λ scope. all_simple scope [] step) >>= λ last.
      statement_in (deeper depth) body >>= λ inner. pure (s.For word.is_counted number first test last inner)
  statement_in depth (While word condition body) =
      make_loop word.at 1 depth >>= λ number. within (λ scope. condition_in scope condition) >>= λ test.
      statement_in (deeper depth) body >>= λ inner. pure (s.While word.is_counted number test inner)
  statement_in depth (Do word body tail condition) =
      make_loop word.at 1 depth >>= λ number. statement_in (deeper depth) body >>= λ inner.
      within (λ scope. condition_in scope condition) >>= λ test.
      pure (s.Do word.is_counted tail.is_counted number inner test)
  statement_in depth (Break word) = leaping word.at depth >> pure (s.Break word.is_counted)
  statement_in depth (Continue word) = leaping word.at depth >> pure (s.Continue word.is_counted)
  statement_in depth (Return at value) = λ w. within (returned value at w.result) w

  -- what stands in a block, behind what was read
  pub pieces_in : ℕ → List Statement → Pieces → Step Work (List Statement)
  pieces_in depth found Done = pure found
  pieces_in depth found (Declare it rest) = declaration it >>= λ x. pieces_in depth (found ++ x ∷ []) rest
  pieces_in depth found (Then piece rest) = statement_in depth piece >>= λ x. pieces_in depth (found ++ x ∷ []) rest

-- a block, in a scope of its own
abbrev pub block_in : ℕ → Pieces → Step Work Statement
block_in depth pieces = λ w. blocked w.scope.outer (pieces_in depth [] pieces (entered w))
