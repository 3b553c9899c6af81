-- Forms that wait while a later operand is evaluated. A form with a scalar of static storage in it goes to a temporary
-- before an operand that calls a function, one with Overflow in it also before an operand that calls an operator.
use Rattle.std.specs.Prelude.{ℕ, suc, ◌+◌, Bool, true, false, ◌||◌, ◌&&◌, if◌then◌else◌, List, [], ◌∷◌, ◌++◌, Option, Some, None}
use Rattle.wm_program.specs.Tree.{Expression, Arguments, Constant, Named, Element, Operator, Invoke, Plain, Negate, Plus, Cast, Done, Value, Whole, From}
use Rattle.wm_flow.specs.declared.kept.Kept.{Kept}
use Rattle.wm_flow.specs.declared.scene.Held.{Held}
use Rattle.wm_flow.specs.declared.scene.Coming.{Coming}
use Rattle.wm_flow.specs.Plain.{AssignForm}
use Rattle.wm_flow.specs.Kept.{form_of, variable}
use Rattle.wm_flow.specs.declared.scene.Scene.{Scene}
use Rattle.wm_flow.specs.declared.scene.Bases.{Bases}
use Rattle.wm_flow.specs.Places.{Plan, bases_of, temporary, has_static, has_overflow, is_named}
use Rattle.wm_flow.specs.Strokes.{Stroke, step}

-- ---- what an expression calls

abbrev mutual
  pub calls : Expression → Bool
  calls (Constant z) = false
  calls (Named scalar) = false
  calls (Element array index site) = calls index
  calls (Operator op args site) = calls_among args
  calls (Invoke function offset args) = true
  calls (Plain mark x y site) = calls x || calls y
  calls (Negate x site) = calls x
  calls (Plus x) = calls x
  calls (Cast width x) = calls x

  pub calls_among : Arguments → Bool
  calls_among Done = false
  calls_among (Value x narrowing rest) = calls x || calls_among rest
  calls_among (Whole array rest) = calls_among rest
  calls_among (From array index site rest) = calls index || calls_among rest

abbrev mutual
  pub operates : Expression → Bool
  operates (Constant z) = false
  operates (Named scalar) = false
  operates (Element array index site) = operates index
  operates (Operator op args site) = true
  operates (Invoke function offset args) = operates_among args
  operates (Plain mark x y site) = operates x || operates y
  operates (Negate x site) = operates x
  operates (Plus x) = operates x
  operates (Cast width x) = operates x

  pub operates_among : Arguments → Bool
  operates_among Done = false
  operates_among (Value x narrowing rest) = operates x || operates_among rest
  operates_among (Whole array rest) = operates_among rest
  operates_among (From array index site rest) = operates index || operates_among rest

-- ---- values that wait

-- what comes
abbrev pub coming : Expression → Coming
coming x = record { call = calls x; operator = operates x }

-- an operator itself, for its own arguments
abbrev pub own_operator : Coming
own_operator = record { call = false; operator = true }

unfoldable pub must_yield : Bases → Coming → Kept → Bool
must_yield bases it kept = it.call && has_static bases kept || it.operator && has_overflow bases kept

abbrev pub before_value : Kept → Held → Held
before_value kept held = record held { values = kept ∷ held.values }

-- the values when those that must have gone to temporaries
unfoldable pub yielded : Bases → Coming → List Kept → ℕ → Held
yielded bases it [] temporaries = record { values = []; temporaries = temporaries }
yielded bases it (kept ∷ rest) temporaries =
    if must_yield bases it kept
    then before_value (variable (temporary bases temporaries)) (yielded bases it rest (suc temporaries))
    else before_value kept (yielded bases it rest temporaries)

unfoldable pub yield_size : Bases → Coming → List Kept → ℕ
yield_size bases it [] = 0
yield_size bases it (kept ∷ rest) =
    if must_yield bases it kept then suc (yield_size bases it rest) else yield_size bases it rest

-- a form goes to a new temporary
unfoldable pub to_temporary : Plan → Scene → (node temporaries : ℕ) → Kept → List Stroke
to_temporary plan scene node temporaries kept =
    step plan scene node (AssignForm (temporary (bases_of plan scene) temporaries) (form_of kept)) None (suc temporaries)

unfoldable pub yield_strokes : Plan → Scene → Coming → List Kept → (node temporaries : ℕ) → List Stroke
yield_strokes plan scene it [] node temporaries = []
yield_strokes plan scene it (kept ∷ rest) node temporaries =
    if must_yield (bases_of plan scene) it kept
    then to_temporary plan scene node temporaries kept ++ yield_strokes plan scene it rest (suc node) (suc temporaries)
    else yield_strokes plan scene it rest node temporaries

-- ---- values

-- how many temporaries are in use where this value was evaluated over so many
unfoldable pub after : Bases → Kept → ℕ → ℕ
after bases kept temporaries = if is_named bases kept then temporaries else suc temporaries

-- one more value
abbrev pub with_value : Bases → Held → Kept → Held
with_value bases held kept =
    record { values = held.values ++ kept ∷ []; temporaries = after bases kept held.temporaries }
