use Rattle.wm_path.proofs.Numbers.{field_small}
use Rattle.wm_path.proofs.worst.choice_at.Goals as goal

pub choice_from-requires : goal.choice_from-requires
choice_from-requires c =
    field_small _ _ _ _ _ _ c.in_ok-field.ensures c.requires.edges
