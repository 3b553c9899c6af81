-- Assignments, steps and calls, where this many more levels may be opened.
use Rattle.std.specs.Prelude.{ℕ, if◌then◌else◌, List, Option, Some, None}
use Rattle.wm_lang.specs.declared.expression.Expr.{Expr}
use Rattle.wm_lang.specs.declared.expression.Spot.{Spot}
use Rattle.wm_lang.specs.declared.statement.AssignMark.{AssignMark}
use Rattle.wm_lang.specs.declared.statement.Simple.{Simple}
use Rattle.wm_lang.specs.declared.statement.Simple.TheVariants as forms
use Rattle.wm_lang.specs.declared.statement.StepMark.{StepMark}
use Rattle.wm_lang.specs.declared.token.Punct.TheVariants as punct
use Rattle.wm_cursor.specs.declared.word.Beginning.{Beginning}
use Rattle.wm_cursor.specs.declared.word.Beginning.TheVariants as beginning
use Rattle.wm_cursor.specs.Inputs.{Reader, ◌>>=◌, ◌<$>◌, pure, refuse, take, seeing, identifier, peek}
use Rattle.wm_expressions.specs.Expressions.{pointed, whole, call_at, spot_at, separated}
use Rattle.wm_cursor.specs.Words.{assign_of, beginning_of, step_of}

unfoldable pub named_spot : ℕ → Reader (Spot Expr)
named_spot depth = do
  name ← identifier
  kind ← spot_at depth name
  pure (record { at = name.at; kind = kind })

abbrev pub spot_by : ℕ → Beginning → Reader (Spot Expr)
spot_by depth beginning.Star = pointed
spot_by depth beginning.Name = named_spot depth
spot_by depth (beginning.Step mark) = refuse
spot_by depth beginning.Other = refuse

unfoldable pub spot : ℕ → Reader (Spot Expr)
spot depth = λ i. spot_by depth (beginning_of (peek i)) i

unfoldable pub step_before : ℕ → StepMark → Reader Simple
step_before depth mark = do
  at ← take
  forms.StepBefore mark at <$> spot depth

abbrev pub assigned_by : ℕ → Spot Expr → Option AssignMark → Reader Simple
assigned_by depth spot (Some mark) = do
  at ← take
  forms.Assign spot mark at <$> whole depth
assigned_by depth spot None = refuse

unfoldable pub assigned : ℕ → Spot Expr → Reader Simple
assigned depth spot = λ i. assigned_by depth spot (assign_of (peek i)) i

abbrev pub changed_by : ℕ → Spot Expr → Option StepMark → Reader Simple
changed_by depth spot (Some mark) = forms.StepAfter spot mark <$> take
changed_by depth spot None = assigned depth spot

unfoldable pub changed : ℕ → Spot Expr → Reader Simple
changed depth spot = λ i. changed_by depth spot (step_of (peek i)) i

unfoldable pub named : ℕ → Reader Simple
named depth = do
  name ← identifier
  is_call ← seeing punct.LeftParenthesis
  if is_call
      then forms.Call <$> call_at depth name
      else (spot_at depth name >>= λ kind. changed depth (record { at = name.at; kind = kind }))

-- `*p++` steps the pointer in C, so behind a spot `*p` stands no step
unfoldable pub through_pointer : ℕ → Reader Simple
through_pointer depth = pointed >>= assigned depth

abbrev pub simple_by : ℕ → Beginning → Reader Simple
simple_by depth (beginning.Step mark) = step_before depth mark
simple_by depth beginning.Star = through_pointer depth
simple_by depth beginning.Name = named depth
simple_by depth beginning.Other = refuse

unfoldable pub simple : ℕ → Reader Simple
simple depth = λ i. simple_by depth (beginning_of (peek i)) i

unfoldable pub simples : ℕ → Reader (List Simple)
simples depth = separated (simple depth)
