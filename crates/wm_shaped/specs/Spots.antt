-- The nodes of a graph in their order, each by its instance, its counters and its temporaries.
use Rattle.std.specs.Prelude.{◌≡◌, ℕ, zero, suc, List, [], ◌∷◌, ◌++◌, map, Option, Some, slice_get}
use Rattle.wm_program.specs.Code.{Code}
use Rattle.wm_flow.specs.Plain.{Layout, Flow}
use Rattle.wm_flow.specs.Layouts.{layout_at}
use Rattle.wm_flow.specs.Places.{Plan}
use Rattle.wm_flow.specs.Strokes.{Stroke, Point, Line, Part, Begins, Turns}
use Rattle.wm_flow.specs.Parts.{part_strokes, instance_count}
use Rattle.wm_flow.specs.Graphs.{whole_strokes}

-- the counters are those of the open loops and the sum counters of the innermost one
pub record Spot : Type 0 where
  pub instance : Option ℕ
  pub counters : ℕ
  pub temporaries : ℕ

module _ (parts : ℕ → ℕ → List Spot) where
  abbrev pub spots_in : List Stroke → List Spot
  spots_in [] = []
  spots_in (Point context instance counters temporaries ∷ rest) =
      record { instance = instance; counters = counters; temporaries = temporaries } ∷ spots_in rest
  spots_in (Line source target doing site ∷ rest) = spots_in rest
  spots_in (Part instance start ∷ rest) = parts instance start ++ spots_in rest
  spots_in (Begins head instance loop node ∷ rest) = spots_in rest
  spots_in (Turns head ∷ rest) = spots_in rest

unfoldable pub spots_part : Plan → (levels : ℕ) → (instance start : ℕ) → List Spot
spots_part plan zero instance start = []
spots_part plan (suc levels) instance start = spots_in (spots_part plan levels) (part_strokes plan instance start)

-- those of the whole graph
unfoldable pub all_spots : Plan → List Spot
all_spots plan = spots_in (spots_part plan (instance_count plan.code)) (whole_strokes plan)

abbrev pub layout_of : Code → Spot → Layout
layout_of code spot = layout_at code spot.instance spot.counters spot.temporaries

-- each node has the instance of its spot, and the shape of that instance with so many counters and temporaries
pub record IsShaped (code : Code) (spots : List Spot) (flow : Flow) : Type 0 where
  pub instances : flow.node_instance ≡ map (λ (spot : Spot). spot.instance) spots
  pub shapes : map (slice_get flow.layouts) flow.node_shape ≡ map (λ (spot : Spot). Some (layout_of code spot)) spots
