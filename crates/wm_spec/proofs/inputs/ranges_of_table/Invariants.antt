use Rattle.std.proofs.Common.{◌≡◌, []}
use Rattle.toml.specs.View.{table_view, members_view}
use Rattle.wm_spec.specs.Inputs.{more_ranges}
use Rattle.wm_spec.specs.Seen.{ranges_of}
use Rattle.wm_spec.proofs.inputs.ranges_of_table.Given as goal

-- the keys that are left, behind the ranges so far, give what all give
abbrev pub invariant-keys : goal.invariant-keys
invariant-keys l =
    (goal.iterator-keys).can_next l.key-iterator × (goal.iterator-keys).is_finite l.key-iterator
    × (more_ranges (ranges_of l.ranges) (members_view l.key-iterator) ≡ more_ranges [] (table_view l.table))
