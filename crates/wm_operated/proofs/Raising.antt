-- The least states in which a flag has kept its number or become 1.
use Rattle.std.proofs.Common.{◌≡◌, ◌≢◌, ◌⊎◌, inl, inr, ℕ, ◌<◌, ℤ, pos, ◌≤ℤ◌, Bool, List, [], ◌∷◌, Option, Some, refl, sym, ◌∙◌, ap, subst, arith}
use Rattle.std.specs.Prelude.{◌↔◌}
use Rattle.std.proofs.lemmas.Int.{ints}
use Rattle.std.proofs.lemmas.Bool.{cases_eq}
use Rattle.wm_numbers.specs.Within.{IsWord32}
use Rattle.wm_interval.specs.declared.Interval.{Interval}
use Rattle.wm_interval.specs.Holds.{Holds}
use Rattle.wm_ops.specs.declared.operators.Op.{Op}
use Rattle.wm_domain.specs.declared.form.Form.{Form}
use Rattle.wm_domain.specs.declared.shape.Shape.{Shape}
use Rattle.wm_domain.specs.Points.{Point, Alike, SameBut, range_at}
use Rattle.wm_domain.specs.States.{variables_of, count_of, array_count, InShape, Keeps, IsLeast}
use Rattle.wm_domain.specs.Bounds.{IsBound}
use Rattle.wm_domain.specs.Changes.{Freed, InEither}
use Rattle.wm_domain.proofs.Moving.{moved-here, moved-there, with_value, with_value-but, same_but_all}
use Rattle.wm_carry.specs.Following.{origin, Comes}
use Rattle.wm_carry.proofs.Changing.{inside_with}
use Rattle.wm_carry.proofs.Reaching.{Laws, Wanted, least_as, reach, through}
use Rattle.wm_cleared.proofs.Freeing.{meets_alike, pull}
use Rattle.wm_assign.specs.declared.values.Value.{Value}
use Rattle.wm_assign.specs.Allowing.{Allowed}
use Rattle.wm_assign.specs.Giving.{Sets}
use Rattle.wm_step.specs.Operating.{AreBoxes, OperateImage, FlagsSomewhere, IsFlag, IsOperated}
use Rattle.wm_operated.specs.Raising.{Raised}
use Rattle.wm_operated.proofs.Deciding.{flags_in_all}
use Rattle.wm_operated.proofs.Flagging.{kept_alike}

one_is : (one : Interval) (z : ℤ) → one.low ≡ pos 1 → one.high ≡ pos 1 → Holds one z → z ≡ pos 1
one_is one z el eh h = omega (arith, ints, el, eh, h.above, h.below)

one_in : (one : Interval) (z : ℤ) → one.low ≡ pos 1 → one.high ≡ pos 1 → z ≡ pos 1 → Holds one z
one_in one z el eh e = record { above = omega (arith, ints, el, e); below = omega (arith, ints, eh, e) }

-- a point that keeps the flag
itself : (Has : Point → Type 0) (May : Type 0) (v : ℕ) (p : Point) → Has p → Raised Has May v p
itself Has May v p h = record { was = p; point = h; others = same_but_all v p; value = inl refl }

module _ (S : Type 0) (pairs : Bool) (holds : S → Point → Type 0) (shape_of : S → Shape) (laws : Laws S pairs holds shape_of) (alike : (s : S) (p q : Point) → Alike (count_of (shape_of s)) (array_count (shape_of s)) p q → holds s p → holds s q) where
  kept_in : (old : S) (v : ℕ) (was p : Point) → holds old was → SameBut v was p → p.values v ≡ was.values v → holds old p
  kept_in old v was p h o e = alike old was p (kept_alike (count_of (shape_of old)) (array_count (shape_of old)) v was p o e) h

  -- ---- the join of the state with the one at which the flag is 1

  module _ (old copy risen new : S) (v : ℕ) (one : Interval) (el : one.low ≡ pos 1) (eh : one.high ≡ pos 1) (er : shape_of risen ≡ shape_of old) (en : shape_of new ≡ shape_of old) (same : (p : Point) → holds copy p ↔ holds old p) (kr : Keeps holds shape_of risen (Freed (holds copy) v one)) where
    pub keeps_raised : Keeps holds shape_of new (InEither (holds old) (holds risen)) → Keeps holds shape_of new (Raised (holds old) (Unit {0}) v)
    keeps_raised kj = record {
      kept = λ p i r. kj.kept p i (elim r.value [
        | inl e ↦ inl (kept_in old v r.was p r.point r.others e)
        | inr k ↦ inr (kr.kept p (subst (λ (s : Shape). InShape s p) (en ∙ sym er) i) (record { was = r.was; point = (same r.was).1 r.point; others = r.others; value = one_in one (p.values v) el eh k.1 }))
      ]);
    }

    pub least_raised : IsLeast holds shape_of risen (Freed (holds copy) v one) → IsLeast holds shape_of new (InEither (holds old) (holds risen)) → IsLeast holds shape_of new (Raised (holds old) (Unit {0}) v)
    least_raised lr lj = through S pairs holds shape_of laws new (InEither (holds old) (holds risen)) (Raised (holds old) (Unit {0}) v)
        (λ p w b ok all. elim w.is [
          | inl h ↦ all p (record { inside = w.inside; is = itself (holds old) (Unit {0}) v p h })
          | inr h ↦ reach S pairs holds shape_of laws risen (Freed (holds copy) v one) kr lr b (subst (λ (s : Shape). IsBound pairs s b) (en ∙ sym er) ok)
              (λ m q. all m (record {
                inside = subst (λ (s : Shape). InShape s m) (er ∙ sym en) q.inside;
                is = record { was = q.is.was; point = (same q.is.was).0 q.is.point; others = q.is.others; value = inr (tt, one_is one (m.values v) el eh q.is.value) };
              })) p h
        ])
        lj

  -- ---- where the flag may become 1, and where not

  pub keeps_so : (old new : S) (May : Type 0) (v : ℕ) → Keeps holds shape_of new (Raised (holds old) (Unit {0}) v) → Keeps holds shape_of new (Raised (holds old) May v)
  keeps_so old new May v k = record {
    kept = λ p i r. k.kept p i (record { was = r.was; point = r.point; others = r.others; value = elim r.value [ inl e ↦ inl e | inr h ↦ inr (tt, h.1) ] });
  }

  pub least_so : (old new : S) (May : Type 0) (v : ℕ) → May → IsLeast holds shape_of new (Raised (holds old) (Unit {0}) v) → IsLeast holds shape_of new (Raised (holds old) May v)
  least_so old new May v may l = least_as holds shape_of new (Raised (holds old) (Unit {0}) v) (Raised (holds old) May v)
      (λ p i r. record { was = r.was; point = r.point; others = r.others; value = elim r.value [ inl e ↦ inl e | inr h ↦ inr (may, h.1) ] }) l

  pub keeps_not : (old : S) (May : Type 0) (v : ℕ) → (May → ⊥) → Keeps holds shape_of old (Raised (holds old) May v)
  keeps_not old May v never = record { kept = λ p i r. kept_in old v r.was p r.point r.others (elim r.value [ inl e ↦ e | inr h ↦ absurd (never h.0) ]) }

  pub least_not : (old : S) (May : Type 0) (v : ℕ) → IsLeast holds shape_of old (Raised (holds old) May v)
  least_not old May v = record { least = λ t e k p h. k.kept p (subst (λ (s : Shape). InShape s p) (sym e) (laws.inside old p h)) (itself (holds old) May v p h) }

  -- ---- behind a least state

  same_numbers : (v : ℕ) (x y : Point) → SameBut v x y → y.values v ≡ x.values v → (u : ℕ) → y.values u ≡ x.values u
  same_numbers v x y o e u = elim (cases_eq u v) [ inl i ↦ subst (λ (k : ℕ). y.values k ≡ x.values k) (sym i) e | inr n ↦ o.numbers u n ]

  with_numbers : (v : ℕ) (x y : Point) (z : ℤ) → SameBut v x y → y.values v ≡ z → (u : ℕ) → y.values u ≡ (with_value x v z).values u
  with_numbers v x y z o e u = elim (cases_eq u v) [
    | inl i ↦ subst (λ (k : ℕ). y.values k ≡ (with_value x v z).values k) (sym i) (e ∙ sym (moved-here x.values v z))
    | inr n ↦ o.numbers u n ∙ sym (moved-there x.values v z u n)
  ]

  -- the least state for the points of a least state so changed is the least for the wanted points so changed
  pub raised_through : (state next : S) (F : Point → Type 0) (May : Type 0) (v : ℕ) → v < count_of (shape_of state) → shape_of next ≡ shape_of state → Keeps holds shape_of state F → IsLeast holds shape_of state F
      → IsLeast holds shape_of next (Raised (holds state) May v) → IsLeast holds shape_of next (Raised F May v)
  raised_through state next F May v hv es k l ln = through S pairs holds shape_of laws next (Raised (holds state) May v) (Raised F May v)
      (λ y w b ok all.
      let x = w.is.was in
      let here = subst (λ (s : Shape). IsBound pairs s b) es ok in
      elim w.is.value [
        | inl e ↦ meets_alike b x y (same_numbers v x y w.is.others e) w.is.others.cells
            (reach S pairs holds shape_of laws state F k l b here
            (λ m q. all m (record { inside = subst (λ (s : Shape). InShape s m) (sym es) q.inside; is = itself F May v m q.is })) x w.is.point)
        | inr h ↦ meets_alike b (with_value x v (pos 1)) y (with_numbers v x y (pos 1) w.is.others h.1) w.is.others.cells
            (pull S pairs holds shape_of laws state F k l v (pos 1) x w.is.point b here
            (λ m q. all (with_value m v (pos 1)) (record {
              inside = subst (λ (s : Shape). InShape s (with_value m v (pos 1))) (sym es)
                  (inside_with (shape_of state) m v (pos 1) q.inside (subst (Holds (range_at (variables_of (shape_of state)) v)) h.1 ((subst (λ (s : Shape). InShape s y) es w.inside).numbers v hv)));
              is = record { was = m; point = q.is; others = with_value-but m v (pos 1); value = inr (h.0, moved-here m.values v (pos 1)) };
            })))
      ])
      ln

-- ---- the image of an operator

first_of : (A B : Type 0) → A × (B × Unit {0}) → A
first_of A B h = h.0

second_of : (A B : Type 0) → A × (B × Unit {0}) → B
second_of A B h = h.1.0

pub operate_of : (s t : Shape) (Has : Point → Type 0) (op : Op) (args : List Form) (boxes : List Interval) (value : Option Value) (v o : ℕ) (p : Point) → v ≢ o → o < count_of t → origin s t o ≡ Some o → AreBoxes Has op args boxes
    → ((was : Point) → Has was → Allowed value was (p.values v) → IsOperated Has op args was (p.values v)) → Raised (Sets s t Has v (Allowed value)) (FlagsSomewhere op boxes) o p → OperateImage s t Has op args v o p
operate_of s t Has op args boxes value v o p apart ho flag are exact r =
    let m = r.point in
    record {
      was = m.was;
      carried = record {
        point = m.carried.point;
        numbers = record { numbers = λ u h a. subst (Comes m.was (origin s t u)) (sym (r.others.numbers u (second_of (u ≢ v) (u ≢ o) a))) (m.carried.numbers.numbers u h (first_of (u ≢ v) (u ≢ o) a, tt)) };
        cells = record { kept = λ a h l n. r.others.cells a ∙ m.carried.cells.kept a h l n; new = λ a h l n. r.others.cells a ∙ m.carried.cells.new a h l n };
      };
      value = exact m.was m.carried.point (subst (Allowed value m.was) (sym (r.others.numbers v apart)) m.value);
      flag = elim r.value [
        | inl e ↦ inl (e ∙ subst (λ (i : Option ℕ). Comes m.was i (r.was.values o)) flag (m.carried.numbers.numbers o ho (λ i. apart (sym i), tt)))
        | inr h ↦ inr (λ others are_others. flags_in_all Has op args boxes are h.0 others are_others, h.1)
      ];
    }
