-- The points of a box of which everything is paired by place, by the parts of the new shape.
use Rattle.std.proofs.Common.{◌≡◌, ℕ, List, length, subst}
use Rattle.wm_interval.specs.declared.Interval.{Interval}
use Rattle.wm_domain.specs.declared.shape.Shape.{Shape}
use Rattle.wm_domain.specs.Changes.{Projected}
use Rattle.wm_domain.specs.Places.{placed, places_of}
use Rattle.wm_spans.specs.Spanned.{Spanned, In}
use Rattle.wm_spans.specs.Exact.{Exactly}

pub paired_as : (s t : Spanned) (a b c : ℕ) (first second arrays : List Interval) (shape : Shape) → first ≡ shape.group → second ≡ shape.singles → arrays ≡ shape.arrays
    → Exactly t (Projected (In s) (places_of a b (length first) (length second)) (placed 0 c (length arrays))) → Exactly t (Projected (In s) (places_of a b (length shape.group) (length shape.singles)) (placed 0 c (length shape.arrays)))
paired_as s t a b c first second arrays shape e f g x =
    subst (λ (xs : List Interval). Exactly t (Projected (In s) (places_of a b (length xs) (length shape.singles)) (placed 0 c (length shape.arrays)))) e
    (subst (λ (xs : List Interval). Exactly t (Projected (In s) (places_of a b (length first) (length xs)) (placed 0 c (length shape.arrays)))) f
    (subst (λ (xs : List Interval). Exactly t (Projected (In s) (places_of a b (length first) (length second)) (placed 0 c (length xs)))) g x))
