-- The instances of a program: each call enters one that is there and stands behind the caller's.
use Rattle.std.specs.Prelude.{ℕ, ◌+◌, ◌<◌, Option, Some, None, length}
use Rattle.wm_program.specs.Code.{Code, routine_at, function_of}
use Rattle.wm_graph_laws.specs.Invoked.{TreeInvokes}

abbrev pub CallsLater : Code → (instance : ℕ) → Type 0
CallsLater code instance =
    TreeInvokes (λ offset. (instance < instance + offset) × (instance + offset < length code.instances))
    (routine_at code (function_of code instance)).body

abbrev pub IsThere : Code → Option ℕ → Type 0
IsThere code None = Unit {0}
IsThere code (Some instance) = instance < length code.instances

pub record CallsStand (code : Code) : Type 0 where
  pub calls : (instance : ℕ) → instance < length code.instances → CallsLater code instance
  pub init : IsThere code code.init
  pub frame : code.frame < length code.instances
