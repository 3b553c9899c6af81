-- Joins and inclusions of octagons, empty ones too.
use Rattle.std.proofs.Common.{◌≡◌, ◌⊎◌, inl, inr, ℕ, ℤ, List, Some, None, Bool, true, false, cond, refl, sym, ◌∙◌, ap, subst}
use Rattle.wm_octagon.specs.HalfTable.{IsWhole}
use Rattle.wm_octagon.specs.Points.{IsPoint, IsTight, LeastOctagon}
use Rattle.wm_octagon.specs.Joining.{greater_of, IsBelow, InEither}
use Rattle.wm_octagon.specs.View as view
use Rattle.wm_octagon.specs.View.{OctagonView, Holds, IsLeast, IsBoxed, IsKept}
use Rattle.wm_octagon.proofs.Least.{tight_of_least}
use Rattle.wm_octagon.proofs.Boxed.{InBox, boxed_of_least}
use Rattle.wm_octagon.proofs.Joins.{join-least, below_points, points_below}

-- an octagon joined with an empty one
left_by : (n : ℕ) (xs : List ℤ) (e : Bool) (p : OctagonView) → IsKept n xs e → p.bounds ≡ None → IsLeast (record { variables = n; bounds = cond e None (Some xs) }) (InEither (record { variables = n; bounds = cond e None (Some xs) }) p)
left_by n xs true p k h = λ x q. elim q [ inl a ↦ a | inr a ↦ subst (λ b. view.PointOf p.variables b x) h a ]
left_by n xs false p k h =
    let t = k.tight refl in
    record {
      some = t.point;
      some_is = inl t.is_point;
      holds = λ x q. elim q [ inl a ↦ a | inr a ↦ absurd (subst (λ b. view.PointOf p.variables b x) h a) ];
      attained = λ i j hi hj. let a = t.attained i j hi hj in record { x = a.x; is = inl a.is; gives = a.gives };
    }

pub join-empty : (n : ℕ) (xs : List ℤ) (e : Bool) (o p : OctagonView) → IsKept n xs e → record { variables = n; bounds = cond e None (Some xs) } ≡ o → p.bounds ≡ None → IsLeast o (InEither o p)
join-empty n xs e o p k v h = subst (λ (q : OctagonView). IsLeast q (InEither q p)) v (left_by n xs e p k h)

pub no_bounds : (m : ℕ) (ys : List ℤ) (e : Bool) (p : OctagonView) → e ≡ true → record { variables = m; bounds = cond e None (Some ys) } ≡ p → p.bounds ≡ None
no_bounds m ys e p h v = ap (λ (q : OctagonView). q.bounds) (sym v) ∙ ap (λ b. cond b None (Some ys)) h

-- two octagons with points
either_boxed : (n : ℕ) (xs ys : List ℤ) → IsBoxed n xs → IsBoxed n ys → (x : ℕ → ℤ) → IsPoint n xs x ⊎ IsPoint n ys x → InBox n x
either_boxed n xs ys a b x p = record { inside = λ v hv. elim p [ inl q ↦ a.boxed x q v hv | inr q ↦ b.boxed x q v hv ] }

kept_same : (n : ℕ) (xs ys : List ℤ) → IsWhole n xs → IsKept n xs false → IsKept n ys false → IsKept n (greater_of xs ys) false
kept_same n xs ys w a b =
    let least = join-least n xs ys w.long (a.tight refl) (b.tight refl) in
    record {
      few = a.few;
      tight = λ _. tight_of_least n _ _ least;
      boxed = λ _. boxed_of_least n _ _ (either_boxed n xs ys (a.boxed refl) (b.boxed refl)) least;
    }

pub join-kept : (n m : ℕ) (xs ys : List ℤ) (e f : Bool) → n ≡ m → e ≡ false → f ≡ false → IsWhole n xs → IsKept n xs e → IsKept m ys f → IsKept n (greater_of xs ys) e
join-kept n m xs ys e f same he hf w a b =
    subst (IsKept n (greater_of xs ys)) (sym he)
    (kept_same n xs ys w (subst (IsKept n xs) he a) (subst (λ k. IsKept k ys false) (sym same) (subst (IsKept m ys) hf b)))

join_same : (n : ℕ) (xs ys : List ℤ) → IsWhole n xs → IsTight n xs → IsTight n ys → LeastOctagon n (InEither (record { variables = n; bounds = Some xs }) (record { variables = n; bounds = Some ys })) (greater_of xs ys)
join_same n xs ys w s t = join-least n xs ys w.long s t

pub join-both : (n m : ℕ) (xs ys : List ℤ) (e f : Bool) (o p : OctagonView) → n ≡ m → e ≡ false → f ≡ false → IsWhole n xs → IsKept n xs e → IsKept m ys f
    → record { variables = n; bounds = cond e None (Some xs) } ≡ o → record { variables = m; bounds = cond f None (Some ys) } ≡ p
    → view.LeastOf n (cond e None (Some (greater_of xs ys))) (InEither o p)
join-both n m xs ys e f o p same he hf w a b vo vp =
    let s = (subst (IsKept n xs) he a).tight refl in
    let t = (subst (λ k. IsKept k ys false) (sym same) (subst (IsKept m ys) hf b)).tight refl in
    let seen_o : record { variables = n; bounds = Some xs } ≡ o = ap (λ z. let r : OctagonView = record { variables = n; bounds = cond z None (Some xs) } in r) (sym he) ∙ vo in
    let seen_p : record { variables = n; bounds = Some ys } ≡ p =
    ap (λ k. let r : OctagonView = record { variables = k; bounds = Some ys } in r) same
    ∙ ap (λ z. let r : OctagonView = record { variables = m; bounds = cond z None (Some ys) } in r) (sym hf) ∙ vp in
    subst (λ z. view.LeastOf n (cond z None (Some (greater_of xs ys))) (InEither o p)) (sym he)
    (subst (λ (q : OctagonView). LeastOctagon n (InEither q p) (greater_of xs ys)) seen_o
    (subst (λ (q : OctagonView). LeastOctagon n (InEither (record { variables = n; bounds = Some xs }) q) (greater_of xs ys)) seen_p (join_same n xs ys w s t)))

-- ---- inclusion

pub has_no_point : (n : ℕ) (xs : List ℤ) (e : Bool) (o p : OctagonView) → e ≡ false → IsKept n xs e → record { variables = n; bounds = cond e None (Some xs) } ≡ o → p.bounds ≡ None → ((x : ℕ → ℤ) → Holds o x → Holds p x) → ⊥
has_no_point n xs e o p he k v h sub =
    let t = (subst (IsKept n xs) he k).tight refl in
    let seen : record { variables = n; bounds = Some xs } ≡ o = ap (λ z. let r : OctagonView = record { variables = n; bounds = cond z None (Some xs) } in r) (sym he) ∙ v in
    subst (λ b. view.PointOf p.variables b t.point) h (sub t.point (subst (λ (q : OctagonView). Holds q t.point) seen t.is_point))

-- the two sides of a comparison of lists, seen as octagons
pub record Seen (n : ℕ) (xs ys : List ℤ) (o p : OctagonView) : Type 0 where
  pub tight : IsTight n xs
  pub left : record { variables = n; bounds = Some xs } ≡ o
  pub right : record { variables = n; bounds = Some ys } ≡ p

pub seen : (n m : ℕ) (xs ys : List ℤ) (e f : Bool) (o p : OctagonView) → n ≡ m → e ≡ false → f ≡ false → IsKept n xs e
    → record { variables = n; bounds = cond e None (Some xs) } ≡ o → record { variables = m; bounds = cond f None (Some ys) } ≡ p → Seen n xs ys o p
seen n m xs ys e f o p same he hf a vo vp = record {
  tight = (subst (IsKept n xs) he a).tight refl;
  left = ap (λ z. let r : OctagonView = record { variables = n; bounds = cond z None (Some xs) } in r) (sym he) ∙ vo;
  right =
      ap (λ k. let r : OctagonView = record { variables = k; bounds = Some ys } in r) same
      ∙ ap (λ z. let r : OctagonView = record { variables = m; bounds = cond z None (Some ys) } in r) (sym hf) ∙ vp;
}

pub included : (n : ℕ) (xs ys : List ℤ) (o p : OctagonView) → IsWhole n xs → Seen n xs ys o p → IsBelow xs ys → (x : ℕ → ℤ) → Holds o x → Holds p x
included n xs ys o p w s b x h =
    subst (λ (q : OctagonView). Holds q x) s.right (below_points n xs ys w.long b x (subst (λ (q : OctagonView). Holds q x) (sym s.left) h))

pub below_of : (n : ℕ) (xs ys : List ℤ) (o p : OctagonView) → IsWhole n xs → Seen n xs ys o p → ((x : ℕ → ℤ) → Holds o x → Holds p x) → IsBelow xs ys
below_of n xs ys o p w s sub =
    points_below n xs ys w.long s.tight (λ x h. subst (λ (q : OctagonView). Holds q x) (sym s.right) (sub x (subst (λ (q : OctagonView). Holds q x) s.left h)))
