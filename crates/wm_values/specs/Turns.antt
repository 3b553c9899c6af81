-- One operand of a chain, and one argument, as they are evaluated one after another.
use Rattle.std.specs.Prelude.{ℕ, List, [], ◌∷◌, Option}
use Rattle.wm_program.specs.declared.tree.Array.{Array}
use Rattle.wm_program.specs.declared.tree.Converted.{Converted}
use Rattle.wm_program.specs.declared.tree.Link.{Link}
use Rattle.wm_program.specs.declared.tree.Passed.{Passed}
use Rattle.wm_program.specs.declared.tree.Passed.TheVariants as passed
use Rattle.wm_program.specs.declared.tree.View.TheVariants as view
use Rattle.wm_program.specs.declared.tree.PlainMark.{PlainMark}
use Rattle.wm_program.specs.Tree.{Expression}
use Rattle.wm_flow.specs.declared.kept.Kept.{Kept}
use Rattle.wm_flow.specs.declared.scene.Scene.{Scene}
use Rattle.wm_flow.specs.declared.scene.Held.{Held}
use Rattle.wm_flow.specs.Places.{Plan, bases_of, offset_of}
use Rattle.wm_flow.specs.Yields.{coming, after, with_value}
use Rattle.wm_flow.specs.Expressions.{value, plain_value, waiting}
use Rattle.wm_pen.specs.Ink.{Ink}
use Rattle.wm_steps.specs.declared.waits.Waiting.{Waiting}
use Rattle.wm_steps.specs.Values.{waited}
use Rattle.wm_steps.specs.Moves as moves
use Rattle.wm_results.specs.Draws.{taking, begun, viewing}
use Rattle.wm_values.specs.Draws.{evaluating}

-- ---- chains: the value so far waits while the operand behind it is evaluated

unfoldable pub first_waits : Plan → Scene → Expression → Kept → (temporaries : ℕ) → Waiting
first_waits plan scene y a temporaries =
    waited (bases_of plan scene) (coming y) a (after (bases_of plan scene) a temporaries)

unfoldable pub linked : Plan → Scene → PlainMark → Expression → Kept → (temporaries : ℕ) → Kept
linked plan scene mark y a temporaries =
    let wait = first_waits plan scene y a temporaries in
    plain_value (bases_of plan scene) mark wait.value (value plan scene y wait.temporaries) temporaries

unfoldable pub linking : Plan → Scene → PlainMark → Expression → (site : ℕ) → Kept → (temporaries : ℕ) → Ink → Ink
linking plan scene mark y site a temporaries ink =
    let wait = first_waits plan scene y a temporaries in
    moves.combining plan scene mark wait.value (value plan scene y wait.temporaries) site temporaries
    (evaluating plan scene y wait.temporaries
    (moves.waiting plan scene (coming y) a (after (bases_of plan scene) a temporaries) ink))

abbrev pub linked_all : Plan → Scene → List (Link Expression) → Kept → (temporaries : ℕ) → Kept
linked_all plan scene [] a temporaries = a
linked_all plan scene (link ∷ rest) a temporaries =
    linked_all plan scene rest (linked plan scene link.mark link.operand a temporaries) temporaries

abbrev pub linking_all : Plan → Scene → List (Link Expression) → Kept → (temporaries : ℕ) → Ink → Ink
linking_all plan scene [] a temporaries ink = ink
linking_all plan scene (link ∷ rest) a temporaries ink =
    linking_all plan scene rest (linked plan scene link.mark link.operand a temporaries) temporaries
    (linking plan scene link.mark link.operand link.site a temporaries ink)

-- ---- arguments: the values before one wait while it is evaluated

unfoldable pub argued : Plan → Scene → Expression → Held → Held
argued plan scene x held =
    let wait = waiting plan scene x held in with_value (bases_of plan scene) wait (value plan scene x wait.temporaries)

-- the values wait, and then it is evaluated
unfoldable pub coming_to : Plan → Scene → Expression → Held → Ink → Ink
coming_to plan scene x held ink =
    evaluating plan scene x (waiting plan scene x held).temporaries
    (moves.yielding plan scene (coming x) held.values held.temporaries ink)

unfoldable pub arguing : Plan → Scene → Expression → Option ℕ → Held → Ink → Ink
arguing plan scene x narrowing held ink =
    let wait = waiting plan scene x held in
    taking plan scene narrowing wait (value plan scene x wait.temporaries) (coming_to plan scene x held ink)

unfoldable pub viewed : Plan → Scene → Array → Expression → Held → Held
viewed plan scene array index held =
    let wait = waiting plan scene index held in
    with_value (bases_of plan scene) wait (begun plan scene array wait (value plan scene index wait.temporaries))

unfoldable pub seeing : Plan → Scene → Array → Expression → (site : ℕ) → Held → Ink → Ink
seeing plan scene array index site held ink =
    let wait = waiting plan scene index held in
    viewing plan scene array site wait (value plan scene index wait.temporaries) (coming_to plan scene index held ink)

-- ---- the arguments of an operator

abbrev pub argued_all : Plan → Scene → List (Converted Expression) → Held → Held
argued_all plan scene [] held = held
argued_all plan scene (x ∷ rest) held = argued_all plan scene rest (argued plan scene x.value held)

abbrev pub arguing_all : Plan → Scene → List (Converted Expression) → Held → Ink → Ink
arguing_all plan scene [] held ink = ink
arguing_all plan scene (x ∷ rest) held ink =
    arguing_all plan scene rest (argued plan scene x.value held) (arguing plan scene x.value x.narrowing held ink)

-- ---- the arguments of a function

abbrev pub handed : Plan → Scene → Passed Expression → Held → Held
handed plan scene (passed.Value x) held = argued plan scene x.value held
handed plan scene (passed.View (view.Whole array)) held = with_value (bases_of plan scene) held (offset_of plan scene array)
handed plan scene (passed.View (view.From array index site)) held = viewed plan scene array index held

abbrev pub handing : Plan → Scene → Passed Expression → Held → Ink → Ink
handing plan scene (passed.Value x) held ink = arguing plan scene x.value x.narrowing held ink
handing plan scene (passed.View (view.Whole array)) held ink = ink
handing plan scene (passed.View (view.From array index site)) held ink = seeing plan scene array index site held ink

abbrev pub handed_all : Plan → Scene → List (Passed Expression) → Held → Held
handed_all plan scene [] held = held
handed_all plan scene (x ∷ rest) held = handed_all plan scene rest (handed plan scene x held)

abbrev pub handing_all : Plan → Scene → List (Passed Expression) → Held → Ink → Ink
handing_all plan scene [] held ink = ink
handing_all plan scene (x ∷ rest) held ink =
    handing_all plan scene rest (handed plan scene x held) (handing plan scene x held ink)
