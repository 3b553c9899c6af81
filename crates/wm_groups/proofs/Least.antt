-- The least group of what a call leaves.
use Rattle.std.proofs.Common.{ℕ, false}
use Rattle.wm_interval.specs.declared.Interval.{Interval}
use Rattle.wm_domain.specs.Points.{Point}
use Rattle.wm_domain.specs.Changes.{Near}
use Rattle.wm_domain.specs.Terms.{NearTerm}
use Rattle.wm_domain.specs.States.{IsLeast}
use Rattle.wm_tied.specs.Pointed.{TiedView, In, shape_of}
use Rattle.wm_tied.specs.Leaving.{IsExactly, Inside, IsLeft}
use Rattle.wm_tied.proofs.Bounding.{told_as, exactly_left}
use Rattle.wm_tied.proofs.Laws.{left_least}
use Rattle.wm_groups.specs.declared.groups.Groups.{Groups}

pub least_left : (t : TiedView) (P : Point → Type 0) → IsLeft t P → IsLeast (λ (g : Groups) (p : Point). In g.tied p) (λ (g : Groups). shape_of g.tied) (record { tied = t }) P
least_left t P l = left_least Groups (λ (g : Groups). g.tied) (record { tied = t }) P l

pub least_exactly : (t : TiedView) (P : Point → Type 0) → IsExactly t P → IsLeast (λ (g : Groups) (p : Point). In g.tied p) (λ (g : Groups). shape_of g.tied) (record { tied = t }) P
least_exactly t P x = least_left t P (exactly_left t P x)

pub near_left : (s t : TiedView) (v w : ℕ) (d r : Interval) → IsLeft t (NearTerm (In s) v (record { variable = w; negative = false }) d r) → IsLeft t (Near (In s) v w d r)
near_left s t v w d r l = record {
  kept = λ p i n. l.kept p i (record { was = n.was; point = n.point; others = n.others; value = n.value; near = n.near });
  told = λ p i. told_as (shape_of t) (Inside t (NearTerm (In s) v (record { variable = w; negative = false }) d r)) (Inside t (Near (In s) v w d r)) p
      (λ q n. record { is = record { was = n.is.was; point = n.is.point; others = n.is.others; value = n.is.value; near = n.is.near }; inside = n.inside }) (l.told p i);
}
