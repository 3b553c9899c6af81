use Rattle.std.proofs.Common.{subst, ◌↔◌}
use Rattle.std.specs.List.{Contains}
use Rattle.wm_grid.proofs.grid.Grid.of.Goals as goal

pub returns : goal.returns
returns c = record {
  numbers = λ y. subst (λ xs. Contains c.in_ok-numbers.numbers.items y ↔ Contains xs y) c.in_ok-numbers_of.ensures (c.in_ok-numbers.ensures.same y);
}
