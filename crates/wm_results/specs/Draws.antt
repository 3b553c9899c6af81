-- What a pen draws of an expression whose parts have been evaluated.
use Rattle.std.specs.Prelude.{ℕ, suc, ◌+◌, List, [], ◌∷◌, pos, Option, Some, None}
use Rattle.wm_ops.specs.declared.operators.Width.{Width}
use Rattle.wm_program.specs.declared.tree.Array.{Array}
use Rattle.wm_flow.specs.declared.kept.Kept.{Kept}
use Rattle.wm_flow.specs.declared.scene.Scene.{Scene}
use Rattle.wm_flow.specs.declared.scene.Held.{Held}
use Rattle.wm_flow.specs.declared.action.Combined.TheVariants.{Negative}
use Rattle.wm_flow.specs.Kept.{negative_of}
use Rattle.wm_flow.specs.Places.{Plan, bases_of, temporary, offset_of}
use Rattle.wm_flow.specs.Strokes.{tested}
use Rattle.wm_flow.specs.Yields.{after}
use Rattle.wm_flow.specs.Expressions.{place_size, element_strokes, cast_doing, call_size, call_strokes, least32, greatest32, last_index, cells_in, place_form}
use Rattle.wm_pen.specs.Ink.{Ink, put}
use Rattle.wm_steps.specs.Moves.{stepped, placing, narrowing}

-- an index is tested, after which so many temporaries are in use
unfoldable pub locating : Plan → Scene → Array → (site : ℕ) → (at : Kept) → (temporaries left : ℕ) → Ink → Ink
locating plan scene array site at temporaries left ink =
    placing plan scene (offset_of plan scene array) at (pos 0) (last_index plan scene array) site temporaries left ink

-- an element: its index is tested and it is read
unfoldable pub indexing : Plan → Scene → Array → (site : ℕ) → (at : Kept) → (temporaries : ℕ) → Ink → Ink
indexing plan scene array site at temporaries ink =
    put (place_size (offset_of plan scene array) at + 1) (element_strokes plan scene array site at ink.node temporaries) ink

-- the number with the other sign
unfoldable pub negating : Plan → Scene → Kept → (site temporaries : ℕ) → Ink → Ink
negating plan scene a site temporaries ink =
    stepped plan scene (tested (negative_of a) (a ∷ []) least32 greatest32 Negative) (Some site) (after (bases_of plan scene) a temporaries) ink

-- a cast
unfoldable pub casting : Plan → Scene → Width → Kept → (temporaries : ℕ) → Ink → Ink
casting plan scene width a temporaries ink =
    stepped plan scene (cast_doing plan scene width a (temporary (bases_of plan scene) temporaries)) None (suc temporaries) ink

-- a call of an instance
unfoldable pub calling : Plan → Scene → (function instance : ℕ) → List Kept → (temporaries : ℕ) → Ink → Ink
calling plan scene function instance values temporaries ink =
    put (call_size plan instance) (call_strokes plan scene function instance values ink.node temporaries) ink

-- ---- arguments: the values before them have waited

-- a value is one more, and converted
unfoldable pub taking : Plan → Scene → Option ℕ → Held → Kept → Ink → Ink
taking plan scene site wait kept ink =
    narrowing plan scene site kept (after (bases_of plan scene) kept wait.temporaries) ink

-- where a view begins, by its index
unfoldable pub begun : Plan → Scene → Array → Held → (at : Kept) → Kept
begun plan scene array wait at =
    place_form (bases_of plan scene) (offset_of plan scene array) at (after (bases_of plan scene) at wait.temporaries)

-- the beginning of a view is one more, and tested: it may stand behind the last cell
unfoldable pub viewing : Plan → Scene → Array → (site : ℕ) → Held → (at : Kept) → Ink → Ink
viewing plan scene array site wait at ink =
    placing plan scene (offset_of plan scene array) at (pos 0) (pos (cells_in plan scene array)) site
    (after (bases_of plan scene) at wait.temporaries)
    (after (bases_of plan scene) (begun plan scene array wait at) wait.temporaries) ink
