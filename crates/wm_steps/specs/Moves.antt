-- What a pen does with one stroke, and with few: each goes so many nodes further, with the strokes of the definition.
use Rattle.std.specs.Prelude.{ℕ, suc, Bool, if◌then◌else◌, List, [], ◌∷◌, ℤ, Option, Some, None}
use Rattle.wm_ops.specs.declared.operators.Op.{Op}
use Rattle.wm_program.specs.declared.tree.PlainMark.{PlainMark}
use Rattle.wm_flow.specs.declared.kept.Kept.{Kept}
use Rattle.wm_flow.specs.declared.scene.Scene.{Scene}
use Rattle.wm_flow.specs.declared.scene.Held.{Held}
use Rattle.wm_flow.specs.declared.scene.Coming.{Coming}
use Rattle.wm_flow.specs.declared.scene.Source.{Source}
use Rattle.wm_flow.specs.Plain.{Doing, Count, Operate}
use Rattle.wm_ops.specs.declared.words.Counted.TheVariants as counted
use Rattle.wm_flow.specs.Places.{Plan, bases_of, overflow_place}
use Rattle.wm_flow.specs.Strokes.{step, tested}
use Rattle.wm_flow.specs.declared.action.Combined.TheVariants.{Itself}
use Rattle.wm_flow.specs.Yields as yields
use Rattle.wm_flow.specs.Yields.{must_yield, yield_size, yield_strokes}
use Rattle.wm_flow.specs.Expressions as expressions
use Rattle.wm_flow.specs.Expressions.{moves, place_form, place_size, place_strokes, plain_strokes, narrow_size, narrow_strokes, operate_size, operate_strokes, argument_form, named_size, named_strokes}
use Rattle.wm_pen.specs.Ink.{Ink, put}

-- one edge to a new node
unfoldable pub stepped : Plan → Scene → Doing → (site : Option ℕ) → (temporaries : ℕ) → Ink → Ink
stepped plan scene doing site temporaries ink = put 1 (step plan scene ink.node doing site temporaries) ink

-- a form goes to a new temporary
unfoldable pub kept_away : Plan → Scene → (temporaries : ℕ) → Kept → Ink → Ink
kept_away plan scene temporaries kept ink = put 1 (yields.to_temporary plan scene ink.node temporaries kept) ink

-- a value waits
unfoldable pub waiting : Plan → Scene → Coming → Kept → (temporaries : ℕ) → Ink → Ink
waiting plan scene it kept temporaries ink =
    if must_yield (bases_of plan scene) it kept then kept_away plan scene temporaries kept ink else ink

-- values wait
unfoldable pub yielding : Plan → Scene → Coming → List Kept → (temporaries : ℕ) → Ink → Ink
yielding plan scene it values temporaries ink =
    put (yield_size (bases_of plan scene) it values) (yield_strokes plan scene it values ink.node temporaries) ink

-- an index goes to a temporary first, where its sum with the offset is no form
unfoldable pub moving : Plan → Scene → (offset index : Kept) → (temporaries : ℕ) → Ink → Ink
moving plan scene offset index temporaries ink =
    if moves offset index then kept_away plan scene temporaries index ink else ink

-- the test of an index, from `low` to `high`
unfoldable pub place_doing : Plan → Scene → (offset index : Kept) → (temporaries : ℕ) → (low high : ℤ) → Doing
place_doing plan scene offset index temporaries low high =
    tested (place_form (bases_of plan scene) offset index temporaries)
    (place_form (bases_of plan scene) offset index temporaries ∷ []) low high Itself

-- an index is tested
unfoldable pub placing : Plan → Scene → (offset index : Kept) → (low high : ℤ) → (site temporaries left : ℕ) → Ink → Ink
placing plan scene offset index low high site temporaries left ink =
    put (place_size offset index) (place_strokes plan scene offset index low high site ink.node temporaries left) ink

-- a plain operator
unfoldable pub combining : Plan → Scene → PlainMark → Kept → Kept → (site target : ℕ) → Ink → Ink
combining plan scene mark a b site target ink = put 1 (plain_strokes plan scene mark a b site ink.node target) ink

-- a conversion to 16 bits
unfoldable pub narrowing : Plan → Scene → Option ℕ → Kept → (temporaries : ℕ) → Ink → Ink
narrowing plan scene site kept temporaries ink =
    put (narrow_size site) (narrow_strokes plan scene site kept ink.node temporaries) ink

-- an operator on values that stand: it is counted and applied
unfoldable pub applying : Plan → Scene → Op → (site : ℕ) → Held → (target temporaries : ℕ) → Ink → Ink
applying plan scene op site own target temporaries ink =
    stepped plan scene
    (Operate op (argument_form own.values 0 ∷ argument_form own.values 1 ∷ argument_form own.values 2 ∷ []) target (overflow_place (bases_of plan scene)))
    (Some site) temporaries
    (stepped plan scene (Count (counted.Operator op)) None own.temporaries ink)

-- an operator
unfoldable pub operating : Plan → Scene → Op → (site : ℕ) → Held → (target temporaries : ℕ) → Ink → Ink
operating plan scene op site held target temporaries ink =
    put (operate_size (bases_of plan scene) held) (operate_strokes plan scene op site held ink.node target temporaries) ink

-- a name
unfoldable pub naming : Plan → Scene → Source → (temporaries : ℕ) → Ink → Ink
naming plan scene source temporaries ink =
    put (named_size plan scene source) (named_strokes plan scene source ink.node temporaries) ink
