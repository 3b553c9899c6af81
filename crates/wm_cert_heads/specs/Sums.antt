-- The sum counters of a head, in a graph and in a text.
use Rattle.std.specs.Prelude.{ℕ, ◌+◌, Bool, false, if◌then◌else◌, ◌==◌, List, [], ◌∷◌, length, Option, Some, None, slice_get}
use Rattle.wm_flow.specs.declared.graph.Sum.{Sum}
use Rattle.wm_cert_text.specs.declared.told.SumStep.{SumStep}

abbrev pub is_same : Sum → Option SumStep → Bool
is_same sum None = false
is_same sum (Some told) = if sum.variable == told.variable then sum.step == told.step else false

-- The sum counters of a graph that belong to a head are those that are told from a place on, in their order.
abbrev pub are_told : (head : ℕ) → List SumStep → (place : ℕ) → List Sum → Bool
are_told head told place [] = length told == place
are_told head told place (sum ∷ rest) =
    if sum.head == head then (if is_same sum (slice_get told place) then are_told head told (place + 1) rest else false)
    else are_told head told place rest
