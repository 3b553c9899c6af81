use Rattle.std.proofs.Common.{◌≡◌, ℕ, List}
use Rattle.toml.specs.View.{table_view, members_view}
use Rattle.wm_spec.specs.Inputs.{keys_among}
use Rattle.wm_spec.specs.Seen.{HasTexts}
use Rattle.wm_spec.proofs.inputs.keys_among.Given as goal

-- the keys that are left decide
abbrev pub invariant-keys : goal.invariant-keys
invariant-keys l =
    (goal.iterator-keys).can_next l.key-iterator × (goal.iterator-keys).is_finite l.key-iterator
    × ((names : List (List ℕ)) → HasTexts l.set names → keys_among (members_view l.key-iterator) names ≡ keys_among (table_view l.table) names)
