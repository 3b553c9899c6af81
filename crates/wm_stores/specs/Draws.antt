-- What a pen draws of the single steps of statements.
use Rattle.std.specs.Prelude.{ℕ, Option, None}
use Rattle.wm_flow.specs.declared.kept.Kept.{Kept}
use Rattle.wm_flow.specs.declared.scene.Scene.{Scene}
use Rattle.wm_flow.specs.declared.scene.Source.{Source}
use Rattle.wm_flow.specs.Places.{Plan, bases_of}
use Rattle.wm_flow.specs.Yields.{after}
use Rattle.wm_flow.specs.Effects.{storing, current_size, current_strokes, dropped_size, dropped_strokes}
use Rattle.wm_pen.specs.Ink.{Ink, put}
use Rattle.wm_steps.specs.Moves as moves

-- a value is converted and stored
unfoldable pub finishing : Plan → Scene → Source → (cells : ℕ) → Option ℕ → Kept → Ink → Ink
finishing plan scene source cells narrowing kept ink =
    moves.stepped plan scene (storing source kept cells) None 0
    (moves.narrowing plan scene narrowing kept (after (bases_of plan scene) kept 0) ink)

-- the number of a spot is read, where it is no variable
unfoldable pub looking : Plan → Scene → Source → Option ℕ → Ink → Ink
looking plan scene source site ink =
    put (current_size plan scene source) (current_strokes plan scene source site ink.node) ink

-- a value is dropped
unfoldable pub dropping : Plan → Scene → Kept → Ink → Ink
dropping plan scene kept ink = put (dropped_size plan scene kept) (dropped_strokes plan scene kept ink.node) ink
