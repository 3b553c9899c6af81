-- What a point of the least octagon of some points tells of these: for each two sides one of them reaches at least as far.
use Rattle.std.proofs.Common.{◌≡◌, ℕ, ◌+◌, ◌*◌, ◌<◌, ℤ, pos, ◌+ℤ◌, ◌-ℤ◌, ◌≤ℤ◌, neg_ℤ, List, Option, Some, None, sym, ◌∙◌, ap, subst, arith}
use Rattle.std.proofs.lemmas.Int.{ints}
use Rattle.wm_numbers.specs.Within.{Within}
use Rattle.wm_octagon.specs.Layout.{opposite}
use Rattle.wm_octagon.specs.Points.{side_value, IsPoint}
use Rattle.wm_octagon.specs.View as view
use Rattle.wm_octagon.specs.View.{OctagonView, Holds, IsLeast}
use Rattle.wm_octagon.proofs.Tight.{meets_of, column-lt, attains_bound}
use Rattle.wm_octagon.proofs.Moves.{side_plus, side_minus}

pub record Reached (P : (ℕ → ℤ) → Type 0) (k l : ℕ) (x : ℕ → ℤ) : Type 0 where
  pub y : ℕ → ℤ
  pub is : P y
  pub far : (side_value x l -ℤ side_value x k) ≤ℤ (side_value y l -ℤ side_value y k)

reach_by : (n : ℕ) (d : Option (List ℤ)) (P : (ℕ → ℤ) → Type 0) → view.LeastOf n d P → (x : ℕ → ℤ) → view.PointOf n d x → (k l : ℕ) → k < 2 * n → l < 2 * n → Reached P k l x
reach_by n None P t x p k l hk hl = absurd p
reach_by n (Some xs) P t x p k l hk hl =
    let a = attains_bound n P xs t.attained k l hk hl in
    let m = (meets_of n xs x p).within k l hk hl in
    let g = a.gives in
    record { y = a.x; is = a.is; far = omega (arith, ints) }

pub reach : (o : OctagonView) (P : (ℕ → ℤ) → Type 0) → IsLeast o P → (x : ℕ → ℤ) → Holds o x → (k l : ℕ) → k < 2 * o.variables → l < 2 * o.variables → Reached P k l x
reach o P t x p k l hk hl = reach_by o.variables o.bounds P t x p k l hk hl

-- points of another octagon alone have a least one within it
fewer_by : (n : ℕ) (b d : Option (List ℤ)) (P : (ℕ → ℤ) → Type 0) → view.LeastOf n d P → ((y : ℕ → ℤ) → P y → view.PointOf n b y) → (x : ℕ → ℤ) → view.PointOf n d x → view.PointOf n b x
fewer_by n b None P t f x p = absurd p
fewer_by n None (Some xs) P t f x p = f t.some t.some_is
fewer_by n (Some ys) (Some xs) P t f x p = record {
  meets = λ k l hk here.
      let r = reach_by n (Some xs) P t x p k l hk (column-lt n k l hk here) in
      let q : IsPoint n ys r.y = f r.y r.is in
      let w = q.meets k l hk here in
      let far = r.far in
      omega (arith, ints);
}

pub fewer : (o q : OctagonView) (P : (ℕ → ℤ) → Type 0) → q.variables ≡ o.variables → IsLeast q P → ((y : ℕ → ℤ) → P y → Holds o y) → (x : ℕ → ℤ) → Holds q x → Holds o x
fewer o q P e t f x p =
    fewer_by o.variables o.bounds q.bounds P (subst (λ (n : ℕ). view.LeastOf n q.bounds P) e t) f x (subst (λ (n : ℕ). view.PointOf n q.bounds x) e p)

-- each of some points is one of their least octagon
holds_by : (n : ℕ) (d : Option (List ℤ)) (P : (ℕ → ℤ) → Type 0) → view.LeastOf n d P → (x : ℕ → ℤ) → P x → view.PointOf n d x
holds_by n None P t x p = t x p
holds_by n (Some ys) P t x p = t.holds x p

pub holds_of : (q : OctagonView) (P : (ℕ → ℤ) → Type 0) → IsLeast q P → (x : ℕ → ℤ) → P x → Holds q x
holds_of q P t x p = holds_by q.variables q.bounds P t x p

twice_le : (a b : ℤ) → (a +ℤ a) ≤ℤ (b +ℤ b) → a ≤ℤ b
twice_le a b h = omega (arith, ints)

-- a variable that lies between two ends at some points does so in their least octagon
pub reach_range : (o : OctagonView) (P : (ℕ → ℤ) → Type 0) (v : ℕ) (low high : ℤ) → v < o.variables → IsLeast o P → ((y : ℕ → ℤ) → P y → Within low high (y v)) → (x : ℕ → ℤ) → Holds o x → Within low high (x v)
reach_range o P v low high hv t all x p =
    let up = reach o P t x p (2 * v + 1) (2 * v) (omega arith) (omega arith) in
    let down = reach o P t x p (2 * v) (2 * v + 1) (omega arith) (omega arith) in
    let u = up.far in
    let d = down.far in
    let ub = (all up.y up.is).below in
    let db = (all down.y down.is).above in
    let a1 = side_plus x v in
    let a2 = side_minus x v in
    let b1 = side_plus up.y v in
    let b2 = side_minus up.y v in
    let c1 = side_plus down.y v in
    let c2 = side_minus down.y v in
    record { above = omega (arith, ints); below = omega (arith, ints) }
