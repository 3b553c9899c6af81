-- What is left of a group of which everything is paired by place, by the parts of the new shape.
use Rattle.std.proofs.Common.{◌≡◌, ℕ, List, length, subst}
use Rattle.wm_interval.specs.declared.Interval.{Interval}
use Rattle.wm_domain.specs.declared.shape.Shape.{Shape}
use Rattle.wm_domain.specs.Points.{Point}
use Rattle.wm_domain.specs.Changes.{Projected}
use Rattle.wm_domain.specs.Places.{placed, places_of}
use Rattle.wm_domain.specs.States.{Keeps}
use Rattle.wm_tied.specs.Pointed.{TiedView, In, shape_of}
use Rattle.wm_tied.specs.Leaving.{IsLeft}
use Rattle.wm_groups.specs.declared.groups.Groups.{Groups}

pub left_as : (s t : TiedView) (a b c : ℕ) (group singles arrays : List Interval) (shape : Shape) → group ≡ shape.group → singles ≡ shape.singles → arrays ≡ shape.arrays
    → IsLeft t (Projected (In s) (places_of a b (length group) (length singles)) (placed 0 c (length arrays))) → IsLeft t (Projected (In s) (places_of a b (length shape.group) (length shape.singles)) (placed 0 c (length shape.arrays)))
left_as s t a b c group singles arrays shape e f g l =
    subst (λ (xs : List Interval). IsLeft t (Projected (In s) (places_of a b (length xs) (length shape.singles)) (placed 0 c (length shape.arrays)))) e
    (subst (λ (xs : List Interval). IsLeft t (Projected (In s) (places_of a b (length group) (length xs)) (placed 0 c (length shape.arrays)))) f
    (subst (λ (xs : List Interval). IsLeft t (Projected (In s) (places_of a b (length group) (length singles)) (placed 0 c (length xs)))) g l))

pub left_keeps : (t : TiedView) (P : Point → Type 0) → IsLeft t P → Keeps (λ (g : Groups) (p : Point). In g.tied p) (λ (g : Groups). shape_of g.tied) (record { tied = t }) P
left_keeps t P l = record { kept = λ p i w. l.kept p i w }
