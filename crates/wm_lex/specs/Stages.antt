-- How far a walk through the lists of the macros has come with one of them.
use Rattle.std.specs.Prelude.{◌≡◌, ℕ, ◌+◌, ◌<◌, ◌≤◌, List, length, slice_index}
use Rattle.wm_lex.specs.declared.definitions.Macro.{Macro}
use Rattle.wm_lex.specs.declared.walk.Stage.{Stage}
use Rattle.wm_lex.specs.declared.walk.Stage.TheVariants.{Fresh, OnPath, Done}
use Rattle.wm_lex.specs.Walks.{list_at}

abbrev pub IsStage : List Macro → List ℕ → ℕ → Stage → Type 0
IsStage macros seen place Fresh = slice_index seen place ≡ 0
IsStage macros seen place OnPath = (0 < slice_index seen place) × (slice_index seen place < length (list_at macros place) + 2)
IsStage macros seen place Done = length (list_at macros place) + 2 ≤ slice_index seen place
