-- To which instance the contexts of a program belong, and how many loops are open in them: the heads come first, then the
-- instances outside of their loops.
use Rattle.std.specs.Prelude.{ℕ, suc, ◌+◌, ◌-◌, List, [], ◌∷◌, ◌++◌, length, Option, Some, None, slice_get, slice_index_or}
use Rattle.std.specs.Option.{option_map_or}
use Rattle.wm_program.specs.declared.program.InstanceInfo.{InstanceInfo}
use Rattle.wm_program.specs.Code.{Code, routine_at}
use Rattle.wm_flow.specs.Places.{Plan}
use Rattle.wm_shaped.specs.Nested.{depths_of}

pub record Owned : Type 0 where
  pub instance : Option ℕ
  pub depth : ℕ

abbrev pub owned_by : (instance : ℕ) → List ℕ → List Owned
owned_by instance [] = []
owned_by instance (depth ∷ rest) = record { instance = Some instance; depth = depth } ∷ owned_by instance rest

abbrev pub owned_from : Code → (from : ℕ) → List InstanceInfo → List Owned
owned_from code from [] = []
owned_from code from (info ∷ rest) =
    owned_by from (depths_of 0 (routine_at code info.function).body) ++ owned_from code (suc from) rest

-- by the numbers of the heads
abbrev pub owners_of : Code → List Owned
owners_of code = record { instance = None; depth = 0 } ∷ owned_from code 0 code.instances

abbrev pub owner_at : Plan → ℕ → Option ℕ
owner_at plan context =
    option_map_or (λ (it : Owned). it.instance) (slice_get (owners_of plan.code) context) (Some (context - plan.tables.heads))

abbrev pub counters_at : Plan → ℕ → ℕ
counters_at plan context =
    option_map_or (λ (it : Owned). option_map_or (λ instance. it.depth + length (slice_index_or plan.sums context [])) it.instance 0)
    (slice_get (owners_of plan.code) context) 0
