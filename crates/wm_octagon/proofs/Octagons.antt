-- What the calls of an octagon leave and tell, from what its half table leaves and tells.
use Rattle.std.proofs.Common.{◌≡◌, ℕ, ◌+◌, ◌*◌, ◌<◌, ◌≤◌, ℤ, pos, ◌+ℤ◌, ◌≤ℤ◌, ◌<ℤ◌, neg_ℤ, List, Option, Some, None, length, refl, sym, ◌∙◌, ap, subst, arith, Bool, true, false, cond, not}
use Rattle.std.proofs.lemmas.Int.{ints}
use Rattle.std.specs.Prelude.{All, IsTrue}
use Rattle.std.specs.Bool.{MatchBool, OnTrue}
use Rattle.wm_interval.specs.declared.Interval.{Interval}
use Rattle.wm_octagon.specs.Layout.{opposite, bound}
use Rattle.wm_octagon.specs.Closing.{half_of, top}
use Rattle.wm_octagon.specs.HalfTable.{HalfTable}
use Rattle.wm_octagon.specs.Points.{side_value, IsPoint, IsTight, LeastOctagon, WithBound}
use Rattle.wm_octagon.specs.Ranges.{IsNarrow, InRanges, box_table}
use Rattle.wm_octagon.specs.declared.octagon.Side.{Side}
use Rattle.wm_octagon.specs.View as view
use Rattle.wm_octagon.specs.View.{OctagonView, Holds, IsLeast, IsTightView, WithDifference, IsBoxed, IsKept}
use Rattle.wm_octagon.specs.Sides.{number_of, signed, IsRangeOf, IsGreatestSum, WithSum, WithRange}
use Rattle.wm_octagon.proofs.Tables.{opposite-lt}
use Rattle.wm_octagon.proofs.Attained.{side_value-opposite}
use Rattle.wm_octagon.proofs.Tight.{meets_of, attains_bound}
use Rattle.wm_octagon.proofs.Least.{value_le_top}
use Rattle.wm_octagon.proofs.Moves.{side_plus, side_minus, peak}
use Rattle.wm_octagon.proofs.Boxed.{boxed_of_least}
use Rattle.wm_octagon.proofs.Ranges.{narrow_tiny}

-- ---- the same points told otherwise

pub least_iso : (n : ℕ) (P Q : (ℕ → ℤ) → Type 0) (xs : List ℤ) → ((x : ℕ → ℤ) → P x → Q x) → ((x : ℕ → ℤ) → Q x → P x) → LeastOctagon n P xs → LeastOctagon n Q xs
least_iso n P Q xs to back t = record {
  some = t.some;
  some_is = to t.some t.some_is;
  holds = λ x q. t.holds x (back x q);
  attained = λ k l hk hl. let a = t.attained k l hk hl in record { x = a.x; is = to a.x a.is; gives = a.gives };
}

pub least_of_iso : (n : ℕ) (b : Option (List ℤ)) (P Q : (ℕ → ℤ) → Type 0) → ((x : ℕ → ℤ) → P x → Q x) → ((x : ℕ → ℤ) → Q x → P x) → view.LeastOf n b P → view.LeastOf n b Q
least_of_iso n None P Q to back t = λ x q. t x (back x q)
least_of_iso n (Some xs) P Q to back t = least_iso n P Q xs to back t

-- ---- new

pub kept-new : (h : HalfTable) (rs : List Interval) → h ≡ box_table rs → length rs ≤ 32 → All IsNarrow rs → LeastOctagon h.variables (InRanges rs) h.bounds → IsTight h.variables h.bounds → IsKept h.variables h.bounds false
kept-new h rs e few narrow least tight =
    let n : h.variables ≡ length rs = ap (λ (q : HalfTable). q.variables) e in
    record {
      few = omega arith;
      tight = λ _. tight;
      boxed = λ _. boxed_of_least h.variables (InRanges rs) h.bounds
          (λ x p. record {
            inside = λ v hv.
                let w = p.inside v (omega arith) in
                let t = narrow_tiny rs v narrow in
                let a = w.above in
                let b = w.below in
                let c = t.0.above in
                let d = t.1.below in
                record { above = omega (arith, ints); below = omega (arith, ints) };
          })
          least;
    }

-- ---- what is told of a variable and of a sum

pub range_is : (n : ℕ) (xs : List ℤ) (v : ℕ) → IsTight n xs → v < n → IsRangeOf (record { variables = n; bounds = Some xs }) v (neg_ℤ (top (bound xs) (2 * v + 1))) (top (bound xs) (2 * v))
range_is n xs v t h =
    let p_in : 2 * v < 2 * n = omega arith in
    let m_in : 2 * v + 1 < 2 * n = omega arith in
    let up = peak n xs (2 * v) t p_in in
    let down = peak n xs (2 * v + 1) t m_in in
    record {
      least = record {
        attained = record { x = down.x; point = down.point; gives = let g = down.gives in let s = side_minus down.x v in omega (arith, ints) };
        least = λ z q. let a = value_le_top n (bound xs) q.x (meets_of n xs q.x q.point) (2 * v + 1) m_in in let s = side_minus q.x v in let g = q.gives in omega (arith, ints);
      };
      greatest = record {
        attained = record { x = up.x; point = up.point; gives = let g = up.gives in let s = side_plus up.x v in omega (arith, ints) };
        greatest = λ z q. let a = value_le_top n (bound xs) q.x (meets_of n xs q.x q.point) (2 * v) p_in in let s = side_plus q.x v in let g = q.gives in omega (arith, ints);
      };
    }

signed-by : (x : ℕ → ℤ) (v : ℕ) (b : Bool) → side_value x (cond b (2 * v + 1) (2 * v)) ≡ cond b (neg_ℤ (x v)) (x v)
signed-by x v true = side_minus x v
signed-by x v false = side_plus x v

pub signed-side : (x : ℕ → ℤ) (s : Side) → side_value x (number_of s) ≡ signed x s
signed-side x s = signed-by x s.variable s.negative

number-by : (n v : ℕ) (b : Bool) → v < n → cond b (2 * v + 1) (2 * v) < 2 * n
number-by n v true h = omega arith
number-by n v false h = omega arith

pub number-lt : (n : ℕ) (s : Side) → s.variable < n → number_of s < 2 * n
number-lt n s h = number-by n s.variable s.negative h

pub sum_is : (n : ℕ) (xs : List ℤ) (a b : Side) → IsTight n xs → a.variable < n → b.variable < n → IsGreatestSum (record { variables = n; bounds = Some xs }) a b (bound xs (opposite (number_of a)) (number_of b))
sum_is n xs a b t ha hb =
    let k_in = opposite-lt n (number_of a) (number-lt n a ha) in
    let l_in = number-lt n b hb in
    let w = attains_bound n (IsPoint n xs) xs t.attained (opposite (number_of a)) (number_of b) k_in l_in in
    record {
      attained = record {
        x = w.x;
        point = w.is;
        gives =
            let g = w.gives in
            let s = side_value-opposite w.x (number_of a) in
            let p = signed-side w.x a in
            let q = signed-side w.x b in
            omega (arith, ints);
      };
      greatest = λ z q.
          let m = (meets_of n xs q.x q.point).within (opposite (number_of a)) (number_of b) k_in l_in in
          let s = side_value-opposite q.x (number_of a) in
          let p = signed-side q.x a in
          let r = signed-side q.x b in
          let g = q.gives in
          omega (arith, ints);
    }

-- ---- one more bound

pub keep-none : (o : OctagonView) (k l : ℕ) (c : ℤ) → o.bounds ≡ None → IsLeast o (WithDifference o k l c)
keep-none o k l c e =
    subst (λ b. view.LeastOf o.variables b (WithDifference o k l c)) (sym e)
    (λ x w. subst (λ b. view.PointOf o.variables b x) e w.point)

pub keep-same : (n : ℕ) (xs : List ℤ) (k : ℕ) (c : ℤ) → IsTight n xs → pos 0 ≤ℤ c → LeastOctagon n (WithDifference (record { variables = n; bounds = Some xs }) k k c) xs
keep-same n xs k c t h = record {
  some = t.point;
  some_is = record { point = t.is_point; bounded = omega (arith, ints) };
  holds = λ x w. w.point;
  attained = λ i j hi hj. let a = t.attained i j hi hj in record { x = a.x; is = record { point = a.is; bounded = omega (arith, ints) }; gives = a.gives };
}

pub keep-contradicted : (o : OctagonView) (k : ℕ) (c : ℤ) → c <ℤ pos 0 → (x : ℕ → ℤ) → WithDifference o k k c x → ⊥
keep-contradicted o k c h x w = let b = w.bounded in absurd (omega (arith, ints))

pub difference_from : (n : ℕ) (xs : List ℤ) (k l : ℕ) (c : ℤ) (x : ℕ → ℤ) → WithBound n xs k l c x → WithDifference (record { variables = n; bounds = Some xs }) k l c x
difference_from n xs k l c x w = record { point = w.point; bounded = w.bounded }

pub bound_from : (n : ℕ) (xs : List ℤ) (k l : ℕ) (c : ℤ) (x : ℕ → ℤ) → WithDifference (record { variables = n; bounds = Some xs }) k l c x → WithBound n xs k l c x
bound_from n xs k l c x w = record { point = w.point; bounded = w.bounded }

pub mirrored_from : (n : ℕ) (xs : List ℤ) (k l : ℕ) (c : ℤ) (x : ℕ → ℤ) → WithBound n xs (opposite l) (opposite k) c x → WithDifference (record { variables = n; bounds = Some xs }) k l c x
mirrored_from n xs k l c x w = record {
  point = w.point;
  bounded = let b = w.bounded in let s = side_value-opposite x k in let t = side_value-opposite x l in omega (arith, ints);
}

pub mirrored_to : (n : ℕ) (xs : List ℤ) (k l : ℕ) (c : ℤ) (x : ℕ → ℤ) → WithDifference (record { variables = n; bounds = Some xs }) k l c x → WithBound n xs (opposite l) (opposite k) c x
mirrored_to n xs k l c x w = record {
  point = w.point;
  bounded = let b = w.bounded in let s = side_value-opposite x k in let t = side_value-opposite x l in omega (arith, ints);
}

pub boxed_kept : (n : ℕ) (xs ys : List ℤ) → IsBoxed n xs → ((x : ℕ → ℤ) → IsPoint n ys x → IsPoint n xs x) → IsBoxed n ys
boxed_kept n xs ys b sub = record { boxed = λ x p v hv. b.boxed x (sub x p) v hv }

sum_to : (o : OctagonView) (a b : Side) (c : ℤ) (x : ℕ → ℤ) → WithDifference o (opposite (number_of a)) (number_of b) c x → WithSum o a b c x
sum_to o a b c x w = record {
  point = w.point;
  bounded = let d = w.bounded in let s = side_value-opposite x (number_of a) in let p = signed-side x a in let q = signed-side x b in omega (arith, ints);
}

sum_back : (o : OctagonView) (a b : Side) (c : ℤ) (x : ℕ → ℤ) → WithSum o a b c x → WithDifference o (opposite (number_of a)) (number_of b) c x
sum_back o a b c x w = record {
  point = w.point;
  bounded = let d = w.bounded in let s = side_value-opposite x (number_of a) in let p = signed-side x a in let q = signed-side x b in omega (arith, ints);
}

pub add-least : (o new : OctagonView) (a b : Side) (c : ℤ) → IsLeast new (WithDifference o (opposite (number_of a)) (number_of b) c) → IsLeast new (WithSum o a b c)
add-least o new a b c t = least_of_iso new.variables new.bounds _ _ (sum_to o a b c) (sum_back o a b c) t

-- ---- an octagon that is not empty, and its parts

pub opened : (n : ℕ) (xs : List ℤ) (b : Bool) (o : OctagonView) → b ≡ false → record { variables = n; bounds = cond b None (Some xs) } ≡ o → record { variables = n; bounds = Some xs } ≡ o
opened n xs b o e v = ap (λ z. let r : OctagonView = record { variables = n; bounds = cond z None (Some xs) } in r) (sym e) ∙ v

pub top-plus : (xs : List ℤ) (v : ℕ) → half_of (bound xs (2 * v + 1) (2 * v)) ≡ top (bound xs) (2 * v)
unfolding top
top-plus xs v = let e : 2 * v + 1 ≡ opposite (2 * v) = omega arith in ap (λ o. half_of (bound xs o (2 * v))) e

pub top-minus : (xs : List ℤ) (v : ℕ) → half_of (bound xs (2 * v) (2 * v + 1)) ≡ top (bound xs) (2 * v + 1)
unfolding top
top-minus xs v = let e : 2 * v ≡ opposite (2 * v + 1) = omega arith in ap (λ o. half_of (bound xs o (2 * v + 1))) e

pub range_room : (n : ℕ) (xs : List ℤ) (v : ℕ) → IsTight n xs → v < n → neg_ℤ (top (bound xs) (2 * v + 1)) ≤ℤ top (bound xs) (2 * v)
range_room n xs v t h =
    let m = meets_of n xs t.point t.is_point in
    let a = value_le_top n (bound xs) t.point m (2 * v) (omega arith) in
    let b = value_le_top n (bound xs) t.point m (2 * v + 1) (omega arith) in
    let p = side_plus t.point v in
    let q = side_minus t.point v in
    omega (arith, ints)

-- what a half table that took in a bound, or refused it, keeps
pub kept-close : (h h' : HalfTable) (i j : ℕ) (c : ℤ) (ys : List ℤ) (r : Bool)
    → MatchBool r (h' ≡ record h { bounds = ys }) (h' ≡ h) → OnTrue r (IsTight h'.variables h'.bounds)
    → OnTrue r ((x : ℕ → ℤ) → (IsPoint h'.variables h'.bounds x → WithBound h.variables h.bounds i j c x) × (WithBound h.variables h.bounds i j c x → IsPoint h'.variables h'.bounds x))
    → h.variables ≤ 32 → IsBoxed h.variables h.bounds → IsKept h'.variables h'.bounds (not r)
kept-close h h' i j c ys true l t p few b =
    let n : h'.variables ≡ h.variables = ap (λ (q : HalfTable). q.variables) l in
    record {
      few = omega arith;
      tight = λ _. t;
      boxed = λ _. record { boxed = λ x q v hv. b.boxed x ((p x).0 q).point v (omega arith) };
    }
kept-close h h' i j c ys false l t p few b =
    let n : h'.variables ≡ h.variables = ap (λ (q : HalfTable). q.variables) l in
    record {
      few = omega arith;
      tight = λ e. absurd (cc);
      boxed = λ e. absurd (cc);
    }

-- the octagon that it leaves is the least
pub least-close : (h h' : HalfTable) (i j : ℕ) (c : ℤ) (ys : List ℤ) (r : Bool) (Q : (ℕ → ℤ) → Type 0)
    → MatchBool r (h' ≡ record h { bounds = ys }) (h' ≡ h)
    → MatchBool r (LeastOctagon h.variables (WithBound h.variables h.bounds i j c) h'.bounds) ((x : ℕ → ℤ) → WithBound h.variables h.bounds i j c x → ⊥)
    → ((x : ℕ → ℤ) → WithBound h.variables h.bounds i j c x → Q x) → ((x : ℕ → ℤ) → Q x → WithBound h.variables h.bounds i j c x)
    → view.LeastOf h'.variables (cond (not r) None (Some h'.bounds)) Q
least-close h h' i j c ys true Q l t to back =
    let n : h.variables ≡ h'.variables = sym (ap (λ (q : HalfTable). q.variables) l) in
    subst (λ m. LeastOctagon m Q h'.bounds) n (least_iso h.variables (WithBound h.variables h.bounds i j c) Q h'.bounds to back t)
least-close h h' i j c ys false Q l t to back = λ x q. t x (back x q)

-- ---- two bounds one after the other

-- the points of what one more bound left are those that meet it
kept_points : (n : ℕ) (xs ys : List ℤ) (k l : ℕ) (c : ℤ) → k < 2 * n → l < 2 * n → LeastOctagon n (WithDifference (record { variables = n; bounds = Some xs }) k l c) ys → (x : ℕ → ℤ) → IsPoint n ys x → WithDifference (record { variables = n; bounds = Some xs }) k l c x
kept_points n xs ys k l c hk hl t x p = record {
  point = record {
    meets = λ i j hi hj.
        let a = t.attained i j hi hj in
        let g = a.gives in
        let m = a.is.point.meets i j hi hj in
        let q = p.meets i j hi hj in
        omega (arith, ints);
  };
  bounded =
      let a = attains_bound n (WithDifference (record { variables = n; bounds = Some xs }) k l c) ys t.attained k l hk hl in
      let g = a.gives in
      let b = a.is.bounded in
      let q = (meets_of n ys x p).within k l hk hl in
      omega (arith, ints);
}

points_by : (n : ℕ) (b d : Option (List ℤ)) (k l : ℕ) (c : ℤ) → k < 2 * n → l < 2 * n → view.LeastOf n d (WithDifference (record { variables = n; bounds = b }) k l c) → (x : ℕ → ℤ) → view.PointOf n d x → WithDifference (record { variables = n; bounds = b }) k l c x
points_by n b None k l c hk hl t x p = absurd p
points_by n None (Some ys) k l c hk hl t x p = absurd t.some_is.point
points_by n (Some xs) (Some ys) k l c hk hl t x p = kept_points n xs ys k l c hk hl t x p

pub points_of : (o new : OctagonView) (k l : ℕ) (c : ℤ) → new.variables ≡ o.variables → k < 2 * o.variables → l < 2 * o.variables → IsLeast new (WithDifference o k l c) → (x : ℕ → ℤ) → Holds new x → WithDifference o k l c x
points_of o new k l c e hk hl t x p =
    points_by o.variables o.bounds new.bounds k l c hk hl (subst (λ n. view.LeastOf n new.bounds (WithDifference o k l c)) e t) x (subst (λ n. view.PointOf n new.bounds x) e p)

holds_by : (n : ℕ) (d : Option (List ℤ)) (P : (ℕ → ℤ) → Type 0) → view.LeastOf n d P → (x : ℕ → ℤ) → P x → view.PointOf n d x
holds_by n None P t x p = t x p
holds_by n (Some ys) P t x p = t.holds x p

pub holds_of : (new : OctagonView) (P : (ℕ → ℤ) → Type 0) → IsLeast new P → (x : ℕ → ℤ) → P x → Holds new x
holds_of new P t x p = holds_by new.variables new.bounds P t x p

-- the two bounds of a range
pub range-least : (o mid new : OctagonView) (v : ℕ) (low high : ℤ) → v < o.variables → mid.variables ≡ o.variables → new.variables ≡ mid.variables
    → IsLeast mid (WithDifference o (2 * v + 1) (2 * v) (high +ℤ high)) → IsLeast new (WithDifference mid (2 * v) (2 * v + 1) (neg_ℤ (low +ℤ low))) → IsLeast new (WithRange o v low high)
range-least o mid new v low high h em en tm tn =
    least_of_iso new.variables new.bounds _ _
    (λ x w.
    let q = points_of o mid (2 * v + 1) (2 * v) (high +ℤ high) em (omega arith) (omega arith) tm x w.point in
    let a = q.bounded in
    let b = w.bounded in
    let p = side_plus x v in
    let m = side_minus x v in
    let r : WithRange o v low high x = record { point = q.point; inside = record { above = omega (arith, ints); below = omega (arith, ints) } } in r)
    (λ x w.
    let a = w.inside.above in
    let b = w.inside.below in
    let p = side_plus x v in
    let m = side_minus x v in
    let first : WithDifference o (2 * v + 1) (2 * v) (high +ℤ high) x = record { point = w.point; bounded = omega (arith, ints) } in
    let r : WithDifference mid (2 * v) (2 * v + 1) (neg_ℤ (low +ℤ low)) x = record { point = holds_of mid (WithDifference o (2 * v + 1) (2 * v) (high +ℤ high)) tm x first; bounded = omega (arith, ints) } in r)
    tn

-- the same, with the sides and the numbers given by equations
pub range-given : (o mid new : OctagonView) (v : ℕ) (low high : ℤ) (k l i j : ℕ) (c d : ℤ) → v < o.variables → mid.variables ≡ o.variables → new.variables ≡ mid.variables
    → IsLeast mid (WithDifference o k l c) → IsLeast new (WithDifference mid i j d)
    → k ≡ 2 * v + 1 → l ≡ 2 * v → i ≡ 2 * v → j ≡ 2 * v + 1 → c ≡ high +ℤ high → d ≡ neg_ℤ (low +ℤ low) → IsLeast new (WithRange o v low high)
range-given o mid new v low high k l i j c d h em en tm tn ek el ei ej ec ed =
    range-least o mid new v low high h em en
    (subst (λ z. IsLeast mid (WithDifference o (2 * v + 1) (2 * v) z)) ec (subst (λ z. IsLeast mid (WithDifference o (2 * v + 1) z c)) el (subst (λ z. IsLeast mid (WithDifference o z l c)) ek tm)))
    (subst (λ z. IsLeast new (WithDifference mid (2 * v) (2 * v + 1) z)) ed (subst (λ z. IsLeast new (WithDifference mid (2 * v) z d)) ej (subst (λ z. IsLeast new (WithDifference mid z j d)) ei tn)))

-- ---- whether there is a point

tight_by : (n : ℕ) (xs : List ℤ) (e : Bool) → IsKept n xs e → IsTightView (record { variables = n; bounds = cond e None (Some xs) })
tight_by n xs true k = tt
tight_by n xs false k = k.tight refl

pub tight_view : (n : ℕ) (xs : List ℤ) (e : Bool) (o : OctagonView) → IsKept n xs e → record { variables = n; bounds = cond e None (Some xs) } ≡ o → IsTightView o
tight_view n xs e o k v = subst (λ (q : OctagonView). IsTightView q) v (tight_by n xs e k)

pointless_by : (n : ℕ) (xs : List ℤ) (e : Bool) → IsKept n xs e → (IsTrue e → (x : ℕ → ℤ) → Holds (record { variables = n; bounds = cond e None (Some xs) }) x → ⊥) × (((x : ℕ → ℤ) → Holds (record { variables = n; bounds = cond e None (Some xs) }) x → ⊥) → IsTrue e)
pointless_by n xs true k = (λ _ x p. p, λ _. refl)
pointless_by n xs false k = (λ t. absurd (cc), λ none. absurd (none (k.tight refl).point (k.tight refl).is_point))

pub pointless : (n : ℕ) (xs : List ℤ) (e : Bool) (o : OctagonView) → IsKept n xs e → record { variables = n; bounds = cond e None (Some xs) } ≡ o → (IsTrue e → (x : ℕ → ℤ) → Holds o x → ⊥) × (((x : ℕ → ℤ) → Holds o x → ⊥) → IsTrue e)
pointless n xs e o k v = subst (λ (q : OctagonView). (IsTrue e → (x : ℕ → ℤ) → Holds q x → ⊥) × (((x : ℕ → ℤ) → Holds q x → ⊥) → IsTrue e)) v (pointless_by n xs e k)
