-- Strokes whose points have the instance and the counters of their contexts.
use Rattle.std.specs.Prelude.{◌≡◌, ℕ, List, [], ◌∷◌, Option}
use Rattle.wm_flow.specs.Strokes.{Stroke, Point, Line, Part, Begins, Turns}

module _ (owner : ℕ → Option ℕ) (counted : ℕ → ℕ) (May : ℕ → Type 0) where
  unfoldable pub AreFitting : List Stroke → Type 0
  AreFitting [] = Unit {0}
  AreFitting (Point context instance counters temporaries ∷ rest) =
      (instance ≡ owner context) × (counters ≡ counted context) × AreFitting rest
  AreFitting (Line source target doing site ∷ rest) = AreFitting rest
  AreFitting (Part instance start ∷ rest) = May instance × AreFitting rest
  AreFitting (Begins head instance loop node ∷ rest) = AreFitting rest
  AreFitting (Turns head ∷ rest) = AreFitting rest
