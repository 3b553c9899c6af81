-- Stores, the indices of elements that are written, and updates.
use Rattle.std.specs.Prelude.{ℕ, Option, Some, None}
use Rattle.wm_program.specs.declared.tree.Array.{Array}
use Rattle.wm_program.specs.declared.tree.PlainMark.{PlainMark}
use Rattle.wm_program.specs.Tree.{Expression}
use Rattle.wm_flow.specs.declared.scene.Scene.{Scene}
use Rattle.wm_flow.specs.declared.scene.Source.{Source}
use Rattle.wm_flow.specs.Places.{Plan}
use Rattle.wm_flow.specs.Expressions.{value, values_after, no_values}
use Rattle.wm_flow.specs.Effects.{Direct, store_size, store_strokes, found_size, found_strokes, update_size, update_strokes}
use Rattle.wm_pen.specs.Ink.{Ink, put}
use Rattle.wm_steps.specs.Moves as moves
use Rattle.wm_stores.specs.Draws.{finishing}
use Rattle.wm_values.specs.Draws.{evaluating, evaluating_all}

-- an operator gives its value to a variable
unfoldable pub giving : Plan → Scene → Direct → Ink → Ink
giving plan scene it ink =
    moves.operating plan scene it.op it.site (values_after plan scene it.arguments (no_values plan scene 0)) it.target 0
    (evaluating_all plan scene it.arguments (no_values plan scene 0) ink)

-- a value is evaluated, converted and stored
unfoldable pub keeping : Plan → Scene → Source → (cells : ℕ) → Expression → Option ℕ → Ink → Ink
keeping plan scene source cells x narrowing ink =
    finishing plan scene source cells narrowing (value plan scene x 0) (evaluating plan scene x 0 ink)

abbrev pub storing_by : Plan → Scene → Option Direct → Source → (cells : ℕ) → Expression → Option ℕ → Ink → Ink
storing_by plan scene (Some it) source cells x narrowing ink = giving plan scene it ink
storing_by plan scene None source cells x narrowing ink = keeping plan scene source cells x narrowing ink

unfoldable pub storing : Plan → Scene → Source → (cells : ℕ) → Expression → Option ℕ → Ink → Ink
storing plan scene source cells x narrowing ink =
    put (store_size plan scene source x narrowing) (store_strokes plan scene source cells x narrowing ink.node) ink

-- the index of an element that is written
unfoldable pub finding : Plan → Scene → Array → Expression → (site : ℕ) → Ink → Ink
finding plan scene array index site ink =
    put (found_size plan scene array index) (found_strokes plan scene array index site ink.node) ink

unfoldable pub updating : Plan → Scene → Source → (cells : ℕ) → Option ℕ → PlainMark → Expression → (arithmetic : ℕ) → Option ℕ → Ink → Ink
updating plan scene source cells site mark x arithmetic narrowing ink =
    put (update_size plan scene source x narrowing)
    (update_strokes plan scene source cells site mark x arithmetic narrowing ink.node) ink
