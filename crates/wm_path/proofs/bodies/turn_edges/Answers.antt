use Rattle.std.proofs.Common.{◌<◌, ◌≤◌, length, subst, sym}
use Rattle.wm_path.proofs.Numbers.{inside_within}
use Rattle.wm_path.proofs.bodies.turn_edges.Goals as goal

pub picked-requires : goal.picked-requires
picked-requires c = λ k h.
    inside_within c.as_slice-2.result.now c.first_at-from.result c.args.turning.back k (subst (λ ways. length ways ≤ 4294967296) (sym c.as_slice-2.ensures.value) c.requires)
    (subst (λ ways. k < length ways) c.stretch-inside.ensures h)
