-- The laws.
use Rattle.wm_lang.specs.declared.expression.Expr.{Expr}
use Rattle.wm_lang.specs.declared.statement.Simple.{Simple}
use Rattle.wm_program.specs.Trees.{test_of, effect_of}
use Rattle.wm_program.specs.WellFormed.{FitsTest, FitsEffect}
use Rattle.wm_source.specs.Reading.{source_of}
use Rattle.wm_marks.specs.declared.marks.Marks.{Marks}
use Rattle.wm_value.specs.Needs.{number_in, condition_in}
use Rattle.wm_value.specs.Widths.{narrows}
use Rattle.wm_body.specs.Simples.{simple}
use Rattle.wm_fitting.specs.Plain.{IsPlain}
use Rattle.wm_fitting.specs.Fitting.{Setting, ScopeFits, Good, FitsNumber}
use Rattle.wm_fitting_acts.specs.PlainActs.{IsPlainSimple}

-- an expression where a number is needed
abbrev pub NumbersFit : Type 0
NumbersFit =
    (S : Setting) → ScopeFits S → (expression : Expr) → IsPlain (source_of expression) → (m : Marks)
    → Good S (FitsNumber S (narrows S.scope (source_of expression))) m (number_in S.scope expression m)

-- an expression where a condition is needed
abbrev pub ConditionsFit : Type 0
ConditionsFit =
    (S : Setting) → ScopeFits S → (expression : Expr) → IsPlain (source_of expression) → (m : Marks)
    → Good S (λ test. FitsTest S.code S.routine (test_of test)) m (condition_in S.scope expression m)

-- an assignment, a step or a call
abbrev pub SimplesFit : Type 0
SimplesFit =
    (S : Setting) → ScopeFits S → (it : Simple) → IsPlainSimple it → (m : Marks)
    → Good S (λ effect. FitsEffect S.code S.routine (effect_of effect)) m (simple S.scope it m)
