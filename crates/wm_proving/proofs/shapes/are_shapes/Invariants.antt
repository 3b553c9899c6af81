use Rattle.std.proofs.Common.{ℕ, ◌<◌, get_or}
use Rattle.wm_domain.specs.declared.shape.Shape.{Shape}
use Rattle.wm_domain.specs.States.{IsShape}
use Rattle.wm_proving.proofs.shapes.are_shapes.Given as goal

abbrev pub invariant-loop-k : goal.invariant-loop-k
invariant-loop-k l = (n : ℕ) (d : Shape) → n < l.k → IsShape (get_or l.shapes n d)
