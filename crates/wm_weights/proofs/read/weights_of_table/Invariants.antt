use Rattle.std.proofs.Common.{◌≡◌}
use Rattle.toml.specs.View.{table_view, members_view}
use Rattle.wm_weights.specs.Given.{with_members, weights_of}
use Rattle.wm_weights.proofs.read.weights_of_table.Given as goal

-- the keys that are left, over the weights so far, give what all keys give
abbrev pub invariant-keys : goal.invariant-keys
invariant-keys l =
    (goal.iterator-keys).can_next l.key-iterator × (goal.iterator-keys).is_finite l.key-iterator
    × (with_members l.has_round l.weights (members_view l.key-iterator) ≡ weights_of (table_view l.table))
