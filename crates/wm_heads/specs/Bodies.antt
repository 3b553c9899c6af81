-- The loops of a program: each stands once in the bodies, and they are numbered in the order of the source.
use Rattle.std.specs.Prelude.{◌≡◌, ℕ, zero, suc, List, [], ◌∷◌, ◌++◌, length}
use Rattle.wm_program.specs.Code.{Code, Routine}
use Rattle.wm_program.specs.Tree.{Tree, Skip, Seq, Block, Empty, Declare, Act, If, IfElse, For, While, Do, Break, Continue, Return, Leave}

-- a loop stands before those inside it
abbrev pub loops_of : Tree → List ℕ
loops_of Skip = []
loops_of (Seq first rest) = loops_of first ++ loops_of rest
loops_of (Block tree) = loops_of tree
loops_of Empty = []
loops_of (Declare fresh) = []
loops_of (Act effect) = []
loops_of (If is_counted test first) = loops_of first
loops_of (IfElse is_counted test first is_else_counted otherwise) = loops_of first ++ loops_of otherwise
loops_of (For is_counted loop begin test after body) = loop ∷ loops_of body
loops_of (While is_counted loop test body) = loop ∷ loops_of body
loops_of (Do is_counted is_tail_counted loop body test) = loop ∷ loops_of body
loops_of (Break is_counted) = []
loops_of (Continue is_counted) = []
loops_of (Return x narrowing) = []
loops_of Leave = []

abbrev pub loops_through : List Routine → List ℕ
loops_through [] = []
loops_through (routine ∷ rest) = loops_of routine.body ++ loops_through rest

-- so many numbers from one on
abbrev pub numbers_from : (first count : ℕ) → List ℕ
numbers_from first zero = []
numbers_from first (suc count) = first ∷ numbers_from (suc first) count

abbrev pub LoopsStand : Code → Type 0
LoopsStand code = loops_through code.routines ≡ numbers_from 0 (length code.loops)
