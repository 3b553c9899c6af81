-- The first loop by number that has a live head in the part of a frame and no bound on its turns.
use Rattle.std.specs.Prelude.{ℕ, suc, min, Bool, false, ◌&&◌, if◌then◌else◌, nat_lt, List, [], ◌∷◌, Option, Some, None, slice_index_or}
use Rattle.wm_flow.specs.declared.graph.Head.{Head}

abbrev pub lesser : Option ℕ → Option ℕ → Option ℕ
lesser None b = b
lesser (Some a) None = Some a
lesser (Some a) (Some b) = Some (min a b)

-- the loop of a head without turns
abbrev pub without_turns : (loop_id turns : Option ℕ) → Option ℕ
without_turns loop_id None = loop_id
without_turns loop_id (Some turns) = None

-- the nodes of a frame stand behind the frame head
unfoldable pub endless_at : (start : ℕ) → List Bool → (turns : Option ℕ) → Head → Option ℕ
endless_at start live turns head =
    if nat_lt start head.node && slice_index_or live head.entry false then without_turns head.loop_id turns else None

abbrev pub endless_from : (start : ℕ) → List (Option ℕ) → List Bool → (number : ℕ) → List Head → (found : Option ℕ) → Option ℕ
endless_from start turns live number [] found = found
endless_from start turns live number (head ∷ rest) found =
    endless_from start turns live (suc number) rest (lesser found (endless_at start live (slice_index_or turns number None) head))
