-- One of some states is replaced, and what it holds then.
use Rattle.std.specs.Prelude.{ℕ, ◌≡◌, ℤ, Bool, List, slice_get, slice_set, Some}
use Rattle.wm_domain.specs.declared.shape.Shape.{Shape}
use Rattle.wm_domain.specs.Points.{Point}
use Rattle.wm_rounding.specs.Rounding.{IsOnGrid}

-- the state at the place is replaced by one of the same shape
pub record IsSetAs {S : Type 0} (shape_of : S → Shape) (old : List S) (place : ℕ) (new : List S) : Type 0 where
  pub now : S
  pub list : new ≡ slice_set old place now
  pub shape : (was : S) → slice_get old place ≡ Some was → shape_of now ≡ shape_of was

-- the state at the place holds each of these points
pub record HoldsAt {S : Type 0} (Has : S → Point → Type 0) (states : List S) (place : ℕ) (P : Point → Type 0) : Type 0 where
  pub each : (state : S) → slice_get states place ≡ Some state → (p : Point) → P p → Has state p

-- the state is on the grid, and of those on the grid that hold these points none has fewer
pub record IsLeastOn {S : Type 0} (numbers : List ℤ) (pairs : Bool) (Has : S → Point → Type 0) (shape_of : S → Shape) (shape : Shape) (P : Point → Type 0) (s : S) : Type 0 where
  pub on_grid : IsOnGrid numbers pairs shape (Has s)
  pub least : (t : S) → shape_of t ≡ shape → IsOnGrid numbers pairs shape (Has t) → ((p : Point) → P p → Has t p) → (p : Point) → Has s p → Has t p

-- the state at the place has the shape
pub record IsShapedAt {S : Type 0} (shape_of : S → Shape) (states : List S) (place : ℕ) (shape : Shape) : Type 0 where
  pub each : (state : S) → slice_get states place ≡ Some state → shape_of state ≡ shape
