-- Two lists of bounds beside one another.
use Rattle.std.specs.Prelude.{ℕ, ◌<◌, ◌⊎◌, ℤ, ◌≤ℤ◌, List, length, map}
use Rattle.std.specs.List.{range_with_len}
use Rattle.std.specs.Int.{int_max}
use Rattle.wm_octagon.specs.Ways.{at}
use Rattle.wm_octagon.specs.View.{OctagonView, Holds}

-- the greater of each two bounds
abbrev pub greater_of : List ℤ → List ℤ → List ℤ
greater_of xs ys = map (λ i. int_max (at xs i) (at ys i)) (range_with_len 0 (length xs))

-- each bound is at most the other
pub record IsBelow (xs ys : List ℤ) : Type 0 where
  pub each : (i : ℕ) → i < length xs → at xs i ≤ℤ at ys i

-- x is a point of one of the two octagons
abbrev pub InEither : OctagonView → OctagonView → (ℕ → ℤ) → Type 0
InEither o p x = Holds o x ⊎ Holds p x
