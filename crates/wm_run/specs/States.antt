-- The states by which this product proves: bounds on variables and on the sums and differences of two of a group.
use Rattle.wm_domain.specs.declared.shape.Shape.{Shape}
use Rattle.wm_domain.specs.Points.{Point}
use Rattle.wm_groups.specs.declared.groups.Groups.{Groups}
use Rattle.wm_tied.specs.Pointed.{In}
use Rattle.wm_tied.specs.Pointed as pointed

-- the point is one of the state
abbrev pub holds : Groups → Point → Type 0
holds state p = In state.tied p

abbrev pub shape_of : Groups → Shape
shape_of state = pointed.shape_of state.tied
