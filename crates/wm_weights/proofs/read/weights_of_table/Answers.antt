use Rattle.std.proofs.Common.{◌≡◌, ◌∷◌, string_bytes}
use Rattle.toml.specs.View.{view, members_view}
use Rattle.toml.proofs.Views.{Entry}
use Rattle.wm_weights.proofs.Faults.{first_fault}
use Rattle.wm_weights.proofs.read.weights_of_table.Goals as goal

pub returns-in-Err : goal.returns-in-Err
returns-in-Err c =
    let e : Entry = (c.in-Some.key.now, c.in-Some.value.now) in
    let iter : c.keys.key-iterator ≡ e ∷ c.next.new.self = c.in-Some.ensures.steps in
    let read = rw (c.as_bytes.ensures.value, c.as_str.ensures.value) at c.in-Err.ensures in
    rw (← c.keys.invariant.2, iter) (first_fault c.names_round-has_round.result c.keys.weights (string_bytes e.0) (view e.1) (members_view c.next.new.self) c.in-Err.fault read)
