-- The names in force at a place of a unit.
use Rattle.std.specs.Prelude.{ℕ, Bool, List, [], ◌∷◌, ◌++◌, length, take, drop, Option, None, slice_get}
use Rattle.std.specs.Option.{option_map_or}
use Rattle.wm_ops.specs.declared.operators.Width.{Width}
use Rattle.wm_scope.specs.declared.meaning.Meaning.{Meaning}
use Rattle.wm_scope.specs.declared.scope.Scope.{Scope}
use Rattle.wm_scope.specs.declared.scope.Slot.{Slot}
use Rattle.wm_scope.specs.Names.{outermost, latest, is_among}

abbrev pub meaning_of : List ℕ → Scope → Meaning
meaning_of word scope = latest word scope.locals (latest word scope.file (outermost word))

-- the innermost block has the name
abbrev pub is_here : List ℕ → Scope → Bool
is_here word scope = is_among word (drop scope.outer scope.locals)

abbrev pub offset_of : ℕ → Scope → ℕ
offset_of call scope = option_map_or (λ offset. offset) (slice_get scope.offsets call) 0

abbrev pub slots_of : ℕ → Scope → List Slot
slots_of function scope = option_map_or (λ it. it.slots) (slice_get scope.signatures function) []

abbrev pub result_of : ℕ → Scope → Option Width
result_of function scope = option_map_or (λ it. it.result) (slice_get scope.signatures function) None

abbrev pub with_name : List ℕ → Meaning → Scope → Scope
with_name word meaning scope = record scope { locals = scope.locals ++ (record { name = word; meaning = meaning }) ∷ [] }

abbrev pub opened : Scope → Scope
opened scope = record scope { outer = length scope.locals }

abbrev pub closed : ℕ → Scope → Scope
closed outer scope = record scope { locals = take scope.outer scope.locals; outer = outer }
