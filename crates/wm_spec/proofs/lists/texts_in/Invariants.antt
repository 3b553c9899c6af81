use Rattle.std.proofs.Common.{◌≡◌, [], drop}
use Rattle.toml.specs.View.{items_view, array_view}
use Rattle.wm_spec.specs.Kinds.{test_of}
use Rattle.wm_spec.specs.Lists.{more_texts}
use Rattle.wm_spec.proofs.lists.texts_in.Given as goal

-- the items that are left, behind the texts so far, give what all give
abbrev pub invariant-loop-item : goal.invariant-loop-item
invariant-loop-item l =
    more_texts (test_of l.kind) l.texts (items_view (drop l.item-index l.items)) ≡ more_texts (test_of l.kind) [] (items_view l.items)
