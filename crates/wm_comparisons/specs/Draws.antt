-- What a pen draws of a comparison whose sides stand.
use Rattle.std.specs.Prelude.{ℕ, ◌+◌, Bool}
use Rattle.wm_program.specs.declared.tree.Comparison.{Comparison}
use Rattle.wm_flow.specs.declared.kept.Kept.{Kept}
use Rattle.wm_flow.specs.declared.scene.Bases.{Bases}
use Rattle.wm_flow.specs.declared.scene.Scene.{Scene}
use Rattle.wm_flow.specs.declared.scene.Sides.{Sides}
use Rattle.wm_flow.specs.Places.{Plan}
use Rattle.wm_flow.specs.Tests.{ways, side_value, side_size, side_strokes, sides_size, sides_strokes}
use Rattle.wm_pen.specs.Ink.{Ink, put}
use Rattle.wm_steps.specs.declared.waits.Waiting.{Waiting}

-- a side as it is compared, with the temporaries in use
unfoldable pub standing : Bases → Bool → Kept → (temporaries : ℕ) → Waiting
standing bases apart kept temporaries =
    record { value = side_value bases apart kept temporaries; temporaries = temporaries + side_size apart kept }

-- one that must goes to the next temporary
unfoldable pub siding : Plan → Scene → Bool → Kept → (temporaries : ℕ) → Ink → Ink
siding plan scene apart kept temporaries ink =
    put (side_size apart kept) (side_strokes plan scene apart kept ink.node temporaries) ink

-- the two ways of sides with this difference
unfoldable pub parting : Comparison → Kept → (hit miss : ℕ) → Ink → Ink
parting mark difference hit miss ink = put 0 (ways mark difference ink.node hit miss) ink

-- sides, and their two ways
unfoldable pub comparing : Plan → Scene → Comparison → Sides → (hit miss : ℕ) → Ink → Ink
comparing plan scene mark sides hit miss ink =
    put (sides_size sides) (sides_strokes plan scene mark sides ink.node hit miss) ink
