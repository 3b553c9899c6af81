use Rattle.std.proofs.Common.{◌≡◌}
use Rattle.toml.specs.View.{table_view, members_view}
use Rattle.wm_spec.specs.Read.{known_keys}
use Rattle.wm_spec.proofs.read.known_keys.Given as goal

-- the keys that are left decide
abbrev pub invariant-keys : goal.invariant-keys
invariant-keys l =
    (goal.iterator-keys).can_next l.key-iterator × (goal.iterator-keys).is_finite l.key-iterator
    × (known_keys (members_view l.key-iterator) ≡ known_keys (table_view l.table))
