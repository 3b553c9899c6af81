-- The points of the least octagon after a variable was set free, or got a new value, are exactly the points so made.
use Rattle.std.proofs.Common.{◌≡◌, ◌≢◌, ◌⊎◌, inl, inr, ℕ, ◌+◌, ◌*◌, ◌/◌, ◌<◌, ℤ, pos, ◌+ℤ◌, ◌-ℤ◌, ◌≤ℤ◌, neg_ℤ, List, Option, Some, None, sym, ◌∙◌, ap, subst, arith, refl}
use Rattle.std.proofs.lemmas.Int.{ints}
use Rattle.std.proofs.lemmas.Bool.{cases_eq}
use Rattle.wm_numbers.specs.Within.{Within}
use Rattle.wm_octagon.specs.Layout.{opposite, bound}
use Rattle.wm_octagon.specs.Closing.{top}
use Rattle.wm_octagon.specs.Points.{side_value, IsPoint, IsTight}
use Rattle.wm_octagon.specs.View as view
use Rattle.wm_octagon.specs.View.{OctagonView, Holds, IsLeast, IsTightView}
use Rattle.wm_octagon.specs.Sides.{FreedOf, WithRange}
use Rattle.wm_octagon.specs.Assigning.{AssignedOf}
use Rattle.wm_octagon.proofs.Tight.{table_of, meets_of, point_from}
use Rattle.wm_octagon.proofs.Moves.{moved, moved-here, moved-there, side_plus, side_minus, side_other}
use Rattle.wm_ties.proofs.Reach.{Reached, reach, fewer, reach_range}
use Rattle.wm_ties.proofs.Extending.{upper, lower, upper-own, upper-other, lower-own, lower-other, own_or, extended, extended_free, even_plus, even_minus}

-- ---- points but for variable v

-- each point that P tells is, but for variable v, one of the table
module _ (n : ℕ) (xs : List ℤ) (tight : IsTight n xs) (v : ℕ) (hv : v < n) (q : OctagonView) (same : q.variables ≡ n) (P : (ℕ → ℤ) → Type 0) (t : IsLeast q P)
    (was_of : (y : ℕ → ℤ) → P y → ℕ → ℤ) (point_of : (y : ℕ → ℤ) (p : P y) → IsPoint n xs (was_of y p)) (others_of : (y : ℕ → ℤ) (p : P y) (w : ℕ) → w ≢ v → y w ≡ was_of y p w)
    (x : ℕ → ℤ) (holds : Holds q x) where
  inside : (k : ℕ) → k < 2 * n → k < 2 * q.variables
  inside k hk = subst (λ (i : ℕ). k < 2 * i) (sym same) hk

  reached : (k l : ℕ) → k < 2 * n → l < 2 * n → Reached P k l x
  reached k l hk hl = reach q P t x holds k l (inside k hk) (inside l hl)

  side_was : (y : ℕ → ℤ) (p : P y) (k : ℕ) → k / 2 ≢ v → side_value y k ≡ side_value (was_of y p) k
  side_was y p k h = side_other y (was_of y p) k (others_of y p (k / 2) h)

  -- so x meets each bound that does not speak of v
  pub fits : (k l : ℕ) → k < 2 * n → l < 2 * n → k / 2 ≢ v → l / 2 ≢ v → (side_value x l -ℤ side_value x k) ≤ℤ bound xs k l
  fits k l hk hl h j =
      let r = reached k l hk hl in
      let far = r.far in
      let m = (meets_of n xs (was_of r.y r.is) (point_of r.y r.is)).within k l hk hl in
      let a = side_was r.y r.is k h in
      let b = side_was r.y r.is l j in
      omega (arith, ints)

  pub record Found : Type 0 where
    pub z : ℤ
    pub point : IsPoint n xs (moved x v z)

  pub found : Found
  found =
      let e = extended_free n (bound xs) (table_of n xs tight) v hv x fits in
      record { z = e.z; point = point_from n xs (moved x v e.z) e.meets }

-- ---- a variable set free

freed_by : (n : ℕ) (b : Option (List ℤ)) (q : OctagonView) (v : ℕ) (low high : ℤ) → v < n → q.variables ≡ n → view.TightBy n b → IsLeast q (FreedOf (record { variables = n; bounds = b }) v low high)
    → (x : ℕ → ℤ) → Holds q x → FreedOf (record { variables = n; bounds = b }) v low high x
freed_by n None q v low high hv same tight t x p =
    let r = reach q (FreedOf (record { variables = n; bounds = None }) v low high) t x p (2 * v) (2 * v) (subst (λ (i : ℕ). 2 * v < 2 * i) (sym same) (omega arith)) (subst (λ (i : ℕ). 2 * v < 2 * i) (sym same) (omega arith)) in
    absurd r.is.point
freed_by n (Some xs) q v low high hv same tight t x p =
    let P = FreedOf (record { variables = n; bounds = Some xs }) v low high in
    let f = found n xs tight v hv q same P t (λ y w. w.was) (λ y w. w.point) (λ y w. w.others) x p in
    record {
      was = moved x v f.z;
      point = f.point;
      others = λ w h. sym (moved-there x v f.z w h);
      value = reach_range q P v low high (subst (λ (i : ℕ). v < i) (sym same) hv) t (λ y w. w.value) x p;
    }

pub freed_exactly : (o q : OctagonView) (v : ℕ) (low high : ℤ) → v < o.variables → q.variables ≡ o.variables → IsTightView o → IsLeast q (FreedOf o v low high) → (x : ℕ → ℤ) → Holds q x → FreedOf o v low high x
freed_exactly o q v low high hv same tight t x p = freed_by o.variables o.bounds q v low high hv same tight t x p

-- ---- a variable with the value of another and a number between two ends

assigned_other_by : (n : ℕ) (b : Option (List ℤ)) (q : OctagonView) (v w : ℕ) (low high : ℤ) → v < n → w < n → w ≢ v → q.variables ≡ n → view.TightBy n b → IsLeast q (AssignedOf (record { variables = n; bounds = b }) v (2 * w) low high)
    → (x : ℕ → ℤ) → Holds q x → AssignedOf (record { variables = n; bounds = b }) v (2 * w) low high x
assigned_other_by n None q v w low high hv hw apart same tight t x p =
    let r = reach q (AssignedOf (record { variables = n; bounds = None }) v (2 * w) low high) t x p (2 * v) (2 * v) (subst (λ (i : ℕ). 2 * v < 2 * i) (sym same) (omega arith)) (subst (λ (i : ℕ). 2 * v < 2 * i) (sym same) (omega arith)) in
    absurd r.is.point
assigned_other_by n (Some xs) q v w low high hv hw apart same tight t x p =
    let P = AssignedOf (record { variables = n; bounds = Some xs }) v (2 * w) low high in
    let f = found n xs tight v hv q same P t (λ y a. a.was) (λ y a. a.point) (λ y a. a.others) x p in
    let vin : 2 * v < 2 * q.variables = subst (λ (i : ℕ). 2 * v < 2 * i) (sym same) (omega arith) in
    let win : 2 * w < 2 * q.variables = subst (λ (i : ℕ). 2 * w < 2 * i) (sym same) (omega arith) in
    let up = reach q P t x p (2 * w) (2 * v) win vin in
    let down = reach q P t x p (2 * v) (2 * w) vin win in
    let uf = up.far in
    let df = down.far in
    let ub = up.is.more_in.below in
    let db = down.is.more_in.above in
    let uv = up.is.value in
    let dv = down.is.value in
    let u1 = side_plus up.y v in
    let u2 = side_plus up.y w in
    let u3 = side_plus up.is.was w in
    let u4 = up.is.others w apart in
    let d1 = side_plus down.y v in
    let d2 = side_plus down.y w in
    let d3 = side_plus down.is.was w in
    let d4 = down.is.others w apart in
    let x1 = side_plus x v in
    let x2 = side_plus x w in
    record {
      was = moved x v f.z;
      point = f.point;
      others = λ u h. sym (moved-there x v f.z u h);
      more = x v -ℤ x w;
      more_in = record { above = omega (arith, ints); below = omega (arith, ints) };
      value = let s = side_plus (moved x v f.z) w in let g = moved-there x v f.z w apart in omega (arith, ints);
    }

-- ---- a variable that gains a number between two ends

assigned_own_by : (n : ℕ) (b : Option (List ℤ)) (q : OctagonView) (v : ℕ) (low high : ℤ) → v < n → low ≤ℤ high → q.variables ≡ n → view.TightBy n b → IsLeast q (AssignedOf (record { variables = n; bounds = b }) v (2 * v) low high)
    → (x : ℕ → ℤ) → Holds q x → AssignedOf (record { variables = n; bounds = b }) v (2 * v) low high x
assigned_own_by n None q v low high hv order same tight t x p =
    let r = reach q (AssignedOf (record { variables = n; bounds = None }) v (2 * v) low high) t x p (2 * v) (2 * v) (subst (λ (i : ℕ). 2 * v < 2 * i) (sym same) (omega arith)) (subst (λ (i : ℕ). 2 * v < 2 * i) (sym same) (omega arith)) in
    absurd r.is.point
assigned_own_by n (Some xs) q v low high hv order same tight t x p =
    let table = table_of n xs tight in
    let fit = fits n xs tight v hv q same P t (λ y a. a.was) (λ y a. a.point) (λ y a. a.others) x p in
    let e = extended n (bound xs) table v hv x fit (x v -ℤ high) (x v -ℤ low) (omega (arith, ints)) lows highs in
    record {
      was = moved x v e.z;
      point = point_from n xs (moved x v e.z) e.meets;
      others = λ u h. sym (moved-there x v e.z u h);
      more = x v -ℤ e.z;
      more_in = let a = e.above in let c = e.below in record { above = omega (arith, ints); below = omega (arith, ints) };
      value = let s = side_plus (moved x v e.z) v in let g = moved-here x v e.z in omega (arith, ints);
    }
  where
    P : (ℕ → ℤ) → Type 0
    P = AssignedOf (record { variables = n; bounds = Some xs }) v (2 * v) low high

    within : (k : ℕ) → k < 2 * n → k < 2 * q.variables
    within k hk = subst (λ (i : ℕ). k < 2 * i) (sym same) hk

    lows : (k : ℕ) → k < 2 * n → lower (bound xs) x v k ≤ℤ (x v -ℤ low)
    lows k hk = elim (own_or v k) [
      | inl e ↦ (
          let r = reach q P t x p (2 * v) (2 * v + 1) (within (2 * v) (omega arith)) (within (2 * v + 1) (omega arith)) in
          let far = r.far in
          let m = (meets_of n xs r.is.was r.is.point).within (2 * v) (2 * v + 1) (omega arith) (omega arith) in
          let a = even_minus n (bound xs) (table_of n xs tight) v hv in
          let l = lower-own (bound xs) x v k e in
          let val = r.is.value in
          let i = r.is.more_in.above in
          let s1 = side_plus x v in
          let s2 = side_minus x v in
          let s3 = side_plus r.y v in
          let s4 = side_minus r.y v in
          let s5 = side_plus r.is.was v in
          let s6 = side_minus r.is.was v in
          omega (arith, ints))
      | inr h ↦ (
          let r = reach q P t x p k (2 * v + 1) (within k hk) (within (2 * v + 1) (omega arith)) in
          let far = r.far in
          let m = (meets_of n xs r.is.was r.is.point).within k (2 * v + 1) hk (omega arith) in
          let l = lower-other (bound xs) x v k h in
          let val = r.is.value in
          let i = r.is.more_in.above in
          let s2 = side_minus x v in
          let s4 = side_minus r.y v in
          let s5 = side_plus r.is.was v in
          let s6 = side_minus r.is.was v in
          let o = side_other r.y r.is.was k (r.is.others (k / 2) h) in
          omega (arith, ints))
    ]

    highs : (k : ℕ) → k < 2 * n → (x v -ℤ high) ≤ℤ upper (bound xs) x v k
    highs k hk = elim (own_or v k) [
      | inl e ↦ (
          let r = reach q P t x p (2 * v + 1) (2 * v) (within (2 * v + 1) (omega arith)) (within (2 * v) (omega arith)) in
          let far = r.far in
          let m = (meets_of n xs r.is.was r.is.point).within (2 * v + 1) (2 * v) (omega arith) (omega arith) in
          let a = even_plus n (bound xs) (table_of n xs tight) v hv in
          let l = upper-own (bound xs) x v k e in
          let val = r.is.value in
          let i = r.is.more_in.below in
          let s1 = side_plus x v in
          let s2 = side_minus x v in
          let s3 = side_plus r.y v in
          let s4 = side_minus r.y v in
          let s5 = side_plus r.is.was v in
          let s6 = side_minus r.is.was v in
          omega (arith, ints))
      | inr h ↦ (
          let r = reach q P t x p k (2 * v) (within k hk) (within (2 * v) (omega arith)) in
          let far = r.far in
          let m = (meets_of n xs r.is.was r.is.point).within k (2 * v) hk (omega arith) in
          let l = upper-other (bound xs) x v k h in
          let val = r.is.value in
          let i = r.is.more_in.below in
          let s2 = side_plus x v in
          let s4 = side_plus r.y v in
          let s5 = side_plus r.is.was v in
          let o = side_other r.y r.is.was k (r.is.others (k / 2) h) in
          omega (arith, ints))
    ]

assigned_by : (n : ℕ) (b : Option (List ℤ)) (q : OctagonView) (v w : ℕ) (low high : ℤ) → v < n → w < n → low ≤ℤ high → q.variables ≡ n → view.TightBy n b → IsLeast q (AssignedOf (record { variables = n; bounds = b }) v (2 * w) low high)
    → (x : ℕ → ℤ) → Holds q x → AssignedOf (record { variables = n; bounds = b }) v (2 * w) low high x
assigned_by n b q v w low high hv hw order same tight t x p = elim (cases_eq w v) [
  | inl e ↦ subst (λ (u : ℕ). AssignedOf (record { variables = n; bounds = b }) v (2 * u) low high x) (sym e)
      (assigned_own_by n b q v low high hv order same tight (subst (λ (u : ℕ). IsLeast q (AssignedOf (record { variables = n; bounds = b }) v (2 * u) low high)) e t) x p)
  | inr ne ↦ assigned_other_by n b q v w low high hv hw ne same tight t x p
]

pub assigned_exactly : (o q : OctagonView) (v w : ℕ) (low high : ℤ) → v < o.variables → w < o.variables → low ≤ℤ high → q.variables ≡ o.variables → IsTightView o → IsLeast q (AssignedOf o v (2 * w) low high)
    → (x : ℕ → ℤ) → Holds q x → AssignedOf o v (2 * w) low high x
assigned_exactly o q v w low high hv hw order same tight t x p = assigned_by o.variables o.bounds q v w low high hv hw order same tight t x p
