-- Calls that make less of less.
use Rattle.std.specs.Prelude.{◌≡◌}
use Rattle.wm_domain.specs.Points.{Point}
use Rattle.wm_domain.specs.declared.shape.Shape.{Shape}
use Rattle.wm_domain.specs.Changes.{InEither}
use Rattle.wm_domain.specs.States.{Keeps, IsLeast}

-- each point of the one state is one of the other
abbrev pub Included : {S : Type 0} → (S → Point → Type 0) → S → S → Type 0
Included Holds s t = (p : Point) → Holds s p → Holds t p

-- where s is within t, what is least of the image of s is within what keeps the image of t
pub record Grows {S : Type 0} (Holds : S → Point → Type 0) (shape_of : S → Shape) (Image : (Point → Type 0) → Point → Type 0) : Type 0 where
  pub grows : (s t image great : S) → Included Holds s t → shape_of great ≡ shape_of image → IsLeast Holds shape_of image (Image (Holds s)) → Keeps Holds shape_of great (Image (Holds t)) → Included Holds image great

-- the same for joins of s and t, and of u and v
pub record JoinGrows {S : Type 0} (Holds : S → Point → Type 0) (shape_of : S → Shape) : Type 0 where
  pub grows : (s t u v image great : S) → Included Holds s u → Included Holds t v → shape_of great ≡ shape_of image → IsLeast Holds shape_of image (InEither (Holds s) (Holds t)) → Keeps Holds shape_of great (InEither (Holds u) (Holds v)) → Included Holds image great
