-- The laws.
use Rattle.std.specs.Prelude.{ℕ, ◌<◌, ◌≤◌, Bool, not, ◌==◌, List, [], map}
use Rattle.wm_lang.specs.declared.statement.Simple.{Simple}
use Rattle.wm_program.specs.Trees.{all_of, tree_of}
use Rattle.wm_program.specs.WellFormed.{FitsTree}
use Rattle.wm_source.specs.Pieces.{Piece, Pieces}
use Rattle.wm_source.specs.Steps.{step_of}
use Rattle.wm_body.specs.declared.work.Work.{Work}
use Rattle.wm_body.specs.Statements.{statement_in, pieces_in}
use Rattle.wm_fitting_declarations.specs.Works.{Home, Reads}
use Rattle.wm_fitting_statements.specs.PlainPieces.{IsPlainPiece, ArePlainPieces}

-- there are loops around it
abbrev pub is_inside : ℕ → Bool
is_inside depth = not (depth == 0)

-- a statement with so many loops around it
abbrev pub StatementsFit : Type 0
StatementsFit =
    (H : Home) → H.routine.parameters ≤ H.least → (depth : ℕ) (piece : Piece) → IsPlainPiece piece → (v : Work)
    → Reads H (Unit {0}) (λ it. FitsTree H.code H.routine H.function (tree_of it) (is_inside depth)) v (statement_in depth piece v)

-- what stands in a block
abbrev pub BlocksFit : Type 0
BlocksFit =
    (H : Home) → H.routine.parameters ≤ H.least → (depth : ℕ) (pieces : Pieces) → ArePlainPieces pieces → (v : Work)
    → Reads H (Unit {0}) (λ its. FitsTree H.code H.routine H.function (all_of (map tree_of its)) (is_inside depth)) v (pieces_in depth [] pieces v)

-- the step of a loop
abbrev pub StepsFit : Type 0
StepsFit = (parts : List Simple) → (0 < step_of parts) × (step_of parts < 32768)
