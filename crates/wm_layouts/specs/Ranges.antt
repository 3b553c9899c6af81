-- Lists of full ranges as plain data.
use Rattle.std.specs.Prelude.{List, [], ◌∷◌}
use Rattle.wm_interval.specs.declared.Interval.{Interval}
use Rattle.wm_domain.specs.declared.shape.Shape.{Shape}
use Rattle.wm_flow.specs.Plain.{Range, Layout}
use Rattle.wm_flow.specs.Views.{range_of}

abbrev pub ranges_of : List Interval → List Range
ranges_of [] = []
ranges_of (range ∷ rest) = range_of range ∷ ranges_of rest

-- the layout of a shape
abbrev pub shape_layout : Shape → Layout
shape_layout shape =
    record { group = ranges_of shape.group; singles = ranges_of shape.singles; arrays = ranges_of shape.arrays }
