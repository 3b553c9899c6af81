-- Marks of the edges along which a run goes on.
use Rattle.std.specs.Prelude.{ℕ, ◌≡◌, List, ◌++◌, Bool, false, slice_get, Some}
use Rattle.wm_domain.specs.declared.shape.Shape.{Shape}
use Rattle.wm_domain.specs.Points.{Point}
use Rattle.wm_flow.specs.declared.graph.Graph.{Graph}
use Rattle.wm_labels.specs.Live.{IsDead}

module _ (Allowed : Graph → (number : ℕ) → (Point → Type 0) → (Point → Type 0) → Point → Type 0) {S : Type 0} (Has : S → Point → Type 0) (shape_of : S → Shape) (graph : Graph) where
  -- an edge that is not marked allows no point from these labels, whatever labels come behind them
  pub record AreLive (live : List Bool) (labels : List S) : Type 0 where
    pub dead : (k : ℕ) → slice_get live k ≡ Some false → (more : List S) → IsDead Allowed Has shape_of graph (labels ++ more) k
