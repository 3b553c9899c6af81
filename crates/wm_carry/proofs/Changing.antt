-- A variable that changes between two nodes: the point before the change at the next node, and the point after it at the
-- first one.
use Rattle.std.proofs.Common.{◌≡◌, inl, inr, ℕ, ◌<◌, ℤ, List, [], ◌∷◌, Option, Some, None, refl, sym, ◌∙◌, ap, subst}
use Rattle.std.proofs.lemmas.Bool.{cases_eq}
use Rattle.wm_interval.specs.Holds.{Holds}
use Rattle.wm_domain.specs.declared.shape.Shape.{Shape}
use Rattle.wm_domain.specs.Points.{Point, SameBut, range_at}
use Rattle.wm_domain.specs.States.{variables_of, count_of, InShape}
use Rattle.wm_domain.proofs.Moving.{moved-here, moved-there, with_value, with_value-but}
use Rattle.wm_carry.specs.Following.{origin, Comes, IsWay, Follows, FollowsCells, Carried, Moved}
use Rattle.wm_carry.proofs.Ranks.{origin_below, origin_apart}

-- the number before a change: that of the variable from which it comes, or any
abbrev pub come : Option ℕ → Point → ℤ → ℤ
come None was z = z
come (Some w) was z = was.values w

comes_come : (o : Option ℕ) (was : Point) (z : ℤ) → Comes was o (come o was z)
comes_come None was z = tt
comes_come (Some w) was z = refl

pub come_held : (s t : Shape) (v : ℕ) (o : Option ℕ) (was p : Point) → IsWay s t → InShape s was → InShape t p → v < count_of t → origin s t v ≡ o → Holds (range_at (variables_of t) v) (come o was (p.values v))
come_held s t v None was p way i j h e = j.numbers v h
come_held s t v (Some w) was p way i j h e = subst (λ r. Holds r (was.values w)) (sym (way.alike v w h e)) (i.numbers w (origin_below s t v w e))

-- a point at the next node as it was before variable v changed
pub record Before (s t : Shape) (Has : Point → Type 0) (v : ℕ) (variables arrays : List ℕ) (was p : Point) : Type 0 where
  pub point : Point
  pub carried : Carried s t Has variables arrays was point
  pub inside : InShape t point
  pub others : SameBut v point p
  pub number : Comes was (origin s t v) (point.values v)

before_numbers : (s t : Shape) (v : ℕ) (variables : List ℕ) (was p : Point) → Follows s t (v ∷ variables) was p → Follows s t variables was (with_value p v (come (origin s t v) was (p.values v)))
before_numbers s t v variables was p f = record {
  numbers = λ u h a. elim (cases_eq u v) [
    | inl e ↦ subst (λ (k : ℕ). Comes was (origin s t k) ((with_value p v (come (origin s t v) was (p.values v))).values k)) (sym e)
        (subst (λ (z : ℤ). Comes was (origin s t v) z) (sym (moved-here p.values v (come (origin s t v) was (p.values v)))) (comes_come (origin s t v) was (p.values v)))
    | inr ne ↦ subst (λ (z : ℤ). Comes was (origin s t u) z) (sym (moved-there p.values v (come (origin s t v) was (p.values v)) u ne)) (f.numbers u h (ne, a))
  ];
}

pub inside_with : (t : Shape) (p : Point) (v : ℕ) (z : ℤ) → InShape t p → Holds (range_at (variables_of t) v) z → InShape t (with_value p v z)
inside_with t p v z i h = record {
  numbers = λ u hu. elim (cases_eq u v) [
    | inl e ↦ subst (λ (k : ℕ). Holds (range_at (variables_of t) k) ((with_value p v z).values k)) (sym e) (subst (Holds (range_at (variables_of t) v)) (sym (moved-here p.values v z)) h)
    | inr ne ↦ subst (Holds (range_at (variables_of t) u)) (sym (moved-there p.values v z u ne)) (i.numbers u hu)
  ];
  set_cells = i.set_cells;
}

pub same_back : (p : Point) (v : ℕ) (z : ℤ) → SameBut v (with_value p v z) p
same_back p v z = record { numbers = λ w h. sym (moved-there p.values v z w h); cells = λ a. refl }

pub before : (s t : Shape) (Has : Point → Type 0) (v : ℕ) (variables arrays : List ℕ) (was p : Point) → IsWay s t → ((x : Point) → Has x → InShape s x) → v < count_of t → InShape t p
    → Carried s t Has (v ∷ variables) arrays was p → Before s t Has v variables arrays was p
before s t Has v variables arrays was p way inside h i m =
    let z = come (origin s t v) was (p.values v) in
    record {
      point = with_value p v z;
      carried = record {
        point = m.point;
        numbers = before_numbers s t v variables was p m.numbers;
        cells = record { kept = m.cells.kept; new = m.cells.new };
      };
      inside = inside_with t p v z i (come_held s t v (origin s t v) was p way (inside was m.point) i h refl);
      others = same_back p v z;
      number = subst (λ (x : ℤ). Comes was (origin s t v) x) (sym (moved-here p.values v z)) (comes_come (origin s t v) was (p.values v));
    }

-- a point at the first node as it is after the variable from which v comes has changed
pub record After (s t : Shape) (o : ℕ) (arrays : List ℕ) (v : ℕ) (was p : Point) : Type 0 where
  pub point : Point
  pub inside : InShape s point
  pub others : SameBut o was point
  pub number : point.values o ≡ p.values v
  pub follows : Follows s t [] point p
  pub cells : FollowsCells s t arrays point p

pub after_moved : (s t : Shape) (New : Point → Type 0) (v o : ℕ) (arrays : List ℕ) (was p : Point) (a : After s t o arrays v was p) → New a.point → Moved s t New [] arrays p
after_moved s t New v o arrays was p a new = record { was = a.point; carried = record { point = new; numbers = a.follows; cells = a.cells } }

comes_from : (o : Option ℕ) (was q : Point) (z : ℤ) → ((w : ℕ) → o ≡ Some w → q.values w ≡ was.values w) → Comes was o z → Comes q o z
comes_from None was q z same h = tt
comes_from (Some w) was q z same h = h ∙ sym (same w refl)

after_numbers : (s t : Shape) (v o : ℕ) (was p : Point) → origin s t v ≡ Some o → Follows s t (v ∷ []) was p → Follows s t [] (with_value was o (p.values v)) p
after_numbers s t v o was p e f = record {
  numbers = λ u h a. elim (cases_eq u v) [
    | inl same ↦ subst (λ (k : ℕ). Comes (with_value was o (p.values v)) (origin s t k) (p.values k)) (sym same)
        (subst (λ (x : Option ℕ). Comes (with_value was o (p.values v)) x (p.values v)) (sym e) (sym (moved-here was.values o (p.values v))))
    | inr ne ↦ comes_from (origin s t u) was (with_value was o (p.values v)) (p.values u)
        (λ w i. moved-there was.values o (p.values v) w (λ (eq : w ≡ o). ne (origin_apart s t u v o (i ∙ ap Some eq) e)))
        (f.numbers u h (ne, tt))
  ];
}

pub after : (s t : Shape) (Has : Point → Type 0) (v o : ℕ) (arrays : List ℕ) (was p : Point) → IsWay s t → ((x : Point) → Has x → InShape s x) → v < count_of t → InShape t p
    → origin s t v ≡ Some o → Carried s t Has (v ∷ []) arrays was p → After s t o arrays v was p
after s t Has v o arrays was p way inside h i e m = record {
  point = with_value was o (p.values v);
  inside = inside_with s was o (p.values v) (inside was m.point) (subst (λ r. Holds r (p.values v)) (way.alike v o h e) (i.numbers v h));
  others = with_value-but was o (p.values v);
  number = moved-here was.values o (p.values v);
  follows = after_numbers s t v o was p e m.numbers;
  cells = record { kept = m.cells.kept; new = m.cells.new };
}

-- a variable that has no origin changes nothing of what comes from the first node
pub new_follows : (s t : Shape) (v : ℕ) (was p : Point) → origin s t v ≡ None → Follows s t (v ∷ []) was p → Follows s t [] was p
new_follows s t v was p e f = record {
  numbers = λ u h a. elim (cases_eq u v) [
    | inl same ↦ subst (λ (k : ℕ). Comes was (origin s t k) (p.values k)) (sym same) (subst (λ (o : Option ℕ). Comes was o (p.values v)) (sym e) tt)
    | inr ne ↦ f.numbers u h (ne, tt)
  ];
}
